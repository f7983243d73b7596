-- `wire::identify` gives what the unread octets name by their end.
use mathlib.Core.Path.{refl, sym, ◌∙◌}
use native.Mathlib.Omega.{arith}
use Rattle.wire.proofs.Endings.{identified, ending_none, ending_one, ending-alone, ending_two}
use Rattle.wire.proofs.identify.Goals as goal

pub returns-in-empty : goal.returns-in-empty
returns-in-empty c = identified _ _ (sym (ending_none _ _ _ (omega arith)))

pub returns-in-len1-up : goal.returns-in-len1-up
returns-in-len1-up c = identified _ _ (c.last_octet.ensures ∙ sym (ending_one _ _ _ _ c.in-len1-up.len_at_least refl c.if-x-lt255.true))

pub returns-in-len2-up : goal.returns-in-len2-up
returns-in-len2-up c = identified _ _ (c.long_count.ensures ∙ sym (ending_two _ _ _ _ c.in-len2-up.len_at_least c.if-x-lt255.false refl))

pub returns-in-len1 : goal.returns-in-len1
returns-in-len1 c = identified _ _ (sym (ending-alone _ _ _ (omega arith) c.if-x-lt255.false))
