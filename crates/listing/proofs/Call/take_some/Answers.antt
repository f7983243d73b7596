-- `Call::take_some` takes octets of the input, in each phase.
use Rattle.std.proofs.Common.{sym, ◌∙◌}
use Rattle.listing.proofs.Taking.{bad_advances, unmade_advances}
use Rattle.listing.proofs.Call.take_some.Goals as goal
use Rattle.listing.proofs.Call.take_some.Goals.{in_default-via-in-Payload+else-is_in_payload, in_default-via-in_default}

pub returns-in_default : goal.returns-in_default
returns-in_default c =
    elim c.in_default.branch [
      | in_default-via-in-Payload+else-is_in_payload w ↦ unmade_advances c.requires w.in-Payload.is (sym w.is_in_payload.ensures ∙ w.if-is_in_payload.false)
      | in_default-via-in_default w ↦ bad_advances c.requires w.in_default.is
    ]
