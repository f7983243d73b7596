-- `wire::next_frame` makes the step over the frame that the unread octets end in; its first arms are what one octet names.
use mathlib.Core.Path.{refl}
use native.Mathlib.Omega.{arith}
use Rattle.std.proofs.lemmas.Result.{err_from_is_err_and}
use Rattle.wire.proofs.StepCases.{step_refused, step_names, step_octet, names_low, names_noise}
use Rattle.wire.proofs.next_frame.Goals as goal

pub returns-in-0-to-127 : goal.returns-in-0-to-127
returns-in-0-to-127 c = step_octet _ _ _ _ _ _ _ (omega arith) refl (omega arith) (names_low _ _ (omega arith) c.low_kind-kind.ensures) c.admit.ensures

pub returns-in-160-to-191 : goal.returns-in-160-to-191
returns-in-160-to-191 c = step_octet _ _ _ _ _ _ _ (omega arith) refl (omega arith) (names_noise _ _ (omega arith) (omega arith)) c.admit-in-160-to-191.ensures

pub returns-in_err-row-in_default : goal.returns-in_err-row-in_default
returns-in_err-row-in_default c =
    let p = err_from_is_err_and c.from_residual.result c.from_residual.ensures.1 in
    rw (p.1, p.2) (step_refused _ _ _ _ _ c.identify.ensures.answer _ c.in_err-row-in_default.was)

pub returns-in_ok-row-in_default : goal.returns-in_ok-row-in_default
returns-in_ok-row-in_default c = step_names _ _ _ _ _ c.identify.ensures.answer _ c.in_ok-row-in_default.was c.admit-in_default.ensures
