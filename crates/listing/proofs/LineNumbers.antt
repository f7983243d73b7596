-- Lines are numbered one by one: a listing has at most as many as its input has octets.
use mathlib.Core.Logic.{◌⊎◌, inl, inr}
use mathlib.Core.Bool.{Bool, true, false, cond}
use mathlib.Core.List.{List, [], ◌∷◌}
use Rattle.std.specs.Prelude.{Option}
use Prim.Native.Nat.{ℕ, suc, ◌+◌, ◌≤◌, ◌<◌}
use native.Mathlib.Omega.{arith}
use lib.Dec.{ltb}
use lib.ListN.{length}
use borrow.Author.Tests.{lt-ltb, le-ltb}
use Rattle.octets.proofs.Order.{below_or}
use Rattle.listing.specs.Listing.{following, Stage, next, has_room, run}
use Rattle.listing.proofs.Stages.{Next, moves, lines, next_view}

following_most : (n : ℕ) → following n ≤ n + 1
unfolding following
following_most n = go (below_or n 18446744073709551615)
  where
    go : (n < 18446744073709551615) ⊎ (18446744073709551615 ≤ n) → cond (ltb n 18446744073709551615) (n + 1) n ≤ n + 1
    go (inl h) = simp (lt-ltb n 18446744073709551615 h) (omega arith)
    go (inr h) = simp (le-ltb n 18446744073709551615 h) (omega arith)

-- an octet makes one line at most
next_lines : (t : Stage) (x : ℕ) → (next t x).lines ≤ t.lines + 1
next_lines t x = go (next_view t x)
  where
    go : {u : Stage} → Next t u → u.lines ≤ t.lines + 1
    go (moves f b) = omega arith
    go (lines p b) = following_most t.lines

-- so no number is said twice in any input of fewer than 2^64 octets
pub lines_most : (room : Option ℕ) (t : Stage) (xs : List ℕ) → (run room t xs).lines ≤ t.lines + length xs
lines_most room t [] = omega arith
lines_most room t (x ∷ xs) = go (has_room room t) (lines_most room (next t x) xs)
  where
    go : (b : Bool) → (run room (next t x) xs).lines ≤ (next t x).lines + length xs → (cond b (run room (next t x) xs) t).lines ≤ t.lines + suc (length xs)
    go true h = omega (arith, next_lines t x)
    go false h = omega arith
