-- `wire::walk_back` walks as the definition does: the loop keeps what WalkLoop says, with the ticks as coder frames times those of their rate.
use mathlib.Core.Path.{◌≡◌}
use Prim.Native.Nat.{◌≤◌}
use Rattle.wire.proofs.WalkLoop.{WalkLoop, counted}
use Rattle.wire.proofs.walk_back.Given as goal

abbrev pub invariant-loop-unread : goal.invariant-loop-unread
invariant-loop-unread l = WalkLoop l.framing l.payload l.unread (counted l.frames l.coders l.octets l.rate) l.wanted × (l.coders ≤ l.frames) × (l.rate ≡ 0 → l.coders ≡ 0)

abbrev pub decreases-loop-unread : goal.decreases-loop-unread
decreases-loop-unread l = l.unread
