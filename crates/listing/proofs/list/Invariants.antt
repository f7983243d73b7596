-- What the loop of `listing::list` keeps.
use Rattle.std.proofs.Common.{◌≡◌, ◌-◌, length}
use Rattle.listing.proofs.Taking.{Kept}
use Rattle.listing.proofs.list.Given as goal

abbrev pub invariant-loop-call : goal.invariant-loop-call
invariant-loop-call l =
    Kept l.initial.call.state l.input l.initial.payload l.initial.call.out.now l.call l.payload × (l.call.out.ghost_name ≡ l.initial.call.out.ghost_name)

abbrev pub decreases-loop-call : goal.decreases-loop-call
decreases-loop-call l = length l.input - l.call.taken
