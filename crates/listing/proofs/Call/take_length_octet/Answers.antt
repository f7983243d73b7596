-- `Call::take_length_octet` takes an octet of a length.
use Rattle.std.proofs.Common.{Some, ap, sym, ◌∙◌, arith}
use Rattle.leb128.proofs.Steps.{more_few}
use Rattle.listing.proofs.Call.take_length_octet.Goals as goal

pub overflow_add-self-in-Some-More : goal.overflow_add-self-in-Some-More
overflow_add-self-in-Some-More c =
    omega (arith, more_few 2 1400 _ _ _ _ (sym c.step.ensures.answer ∙ c.in-Some-More.is ∙ ap Some c.in-Some-More.field-0-is))
