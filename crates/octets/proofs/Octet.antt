-- What holds of each octet of a list holds of its parts, and of it with an octet stored.
use mathlib.Core.Path.{◌≡◌}
use mathlib.Core.Logic.{◌⊎◌, inl, inr}
use mathlib.Core.List.{List, ◌++◌}
use Prim.Native.Nat.{ℕ, ◌+◌, ◌≤◌, ◌<◌}
use native.Mathlib.Omega.{arith}
use native.Mathlib.Decide.{ℕ_discrete}
use lib.ListN.{length, get_or, set, take, drop, length-take, get_or-eq_default}
use lib.Seq.{get_or-append-add, get_or-take, get_or-drop, get_or-set_same, get_or-set_other}
use Rattle.octets.specs.Octet.{Octets}
use Rattle.octets.proofs.Order.{below_or}

pub octets_behind : (xs ys : List ℕ) {l : List ℕ} → l ≡ xs ++ ys → Octets l → Octets ys
octets_behind xs ys e o i =
    let h : get_or (xs ++ ys) (length xs + i) 0 < 256 = rw e at (o (length xs + i)) in
    rw (get_or-append-add xs ys i 0) at h

pub octets_drop : (n : ℕ) (xs : List ℕ) → Octets xs → Octets (drop n xs)
octets_drop n xs o i = rw (get_or-drop n xs i 0) (o (n + i))

pub octets_take : (n : ℕ) (xs : List ℕ) → Octets xs → Octets (take n xs)
octets_take n xs o i = go (below_or i n)
  where
    go : (i < n) ⊎ (n ≤ i) → get_or (take n xs) i 0 < 256
    go (inl h) = rw get_or-take (o i)
    go (inr h) = rw (get_or-eq_default (take n xs) 0 {n = i} (omega (arith, length-take n xs))) (omega arith)

pub octets_set : (xs : List ℕ) (j v : ℕ) → Octets xs → j < length xs → v < 256 → Octets (set xs j v)
octets_set xs j v o h l i = go (ℕ_discrete i j)
  where
    go : Dec (i ≡ j) → get_or (set xs j v) i 0 < 256
    go (yes e) = rw (e, get_or-set_same xs j v 0 h) l
    go (no e) = rw (get_or-set_other xs j i v 0 e) (o i)
