-- `wire::walk` refuses a payload of more than 1,400 octets, and else walks.
use Rattle.wire.proofs.WalkLoop.{too_long_lem, walks}
use Rattle.wire.proofs.walk.Goals as goal

pub returns-then-payload-gt-MOST_OCTETS : goal.returns-then-payload-gt-MOST_OCTETS
returns-then-payload-gt-MOST_OCTETS c = rw c.at.ensures (walks _ _ (too_long_lem _ _ c.if-payload-gt-MOST_OCTETS.true))
