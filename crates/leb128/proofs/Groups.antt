-- A number's octets: one and more groups; more groups allowed do not change them.
use mathlib.Core.Path.{◌≡◌, sym, ap, ◌∙◌}
use mathlib.Core.Logic.{◌⊎◌, inl, inr}
use mathlib.Core.List.{List, [], ◌∷◌}
use Prim.Native.Nat.{ℕ, zero, suc, ◌+◌, ◌*◌, ◌/◌, ◌%◌, ◌^◌, ◌≤◌, ◌<◌}
use native.Mathlib.Nat.{pow-suc}
use native.Mathlib.Omega.{arith}
use lib.ListN.{length}
use borrow.Author.Tests.{lt-ltb, le-ltb}
use Rattle.leb128.specs.Number.{groups_of}
use Rattle.octets.proofs.Order.{below_or}

pub groups_one : (j n : ℕ) → n < 128 → groups_of (suc j) n ≡ n ∷ []
groups_one j n h = simp (lt-ltb n 128 h)

pub groups_more : (j n : ℕ) → 128 ≤ n → groups_of (suc j) n ≡ (128 + n % 128) ∷ groups_of j (n / 128)
groups_more j n h = simp (le-ltb n 128 h)

-- where two counts of groups are both enough, the octets are the same
pub groups_same : (j k n : ℕ) → 1 ≤ j → 1 ≤ k → n < 128 ^ j → n < 128 ^ k → groups_of j n ≡ groups_of k n
groups_same zero k n hj hk a b = absurd (omega arith)
groups_same (suc j) zero n hj hk a b = absurd (omega arith)
groups_same (suc j) (suc k) n hj hk a b = go (groups_same j k (n / 128)) (below_or n 128)
  where
    some : (i : ℕ) → n < 128 ^ i * 128 → 128 ≤ n → 1 ≤ i
    some zero l h = absurd (omega arith)
    some (suc i) l h = omega arith

    aj : n < 128 ^ j * 128
    aj = rw (pow-suc 128 j) at a

    bk : n < 128 ^ k * 128
    bk = rw (pow-suc 128 k) at b

    go : (1 ≤ j → 1 ≤ k → n / 128 < 128 ^ j → n / 128 < 128 ^ k → groups_of j (n / 128) ≡ groups_of k (n / 128))
        → (n < 128) ⊎ (128 ≤ n) → groups_of (suc j) n ≡ groups_of (suc k) n
    go ih (inl h) = groups_one j n h ∙ sym (groups_one k n h)
    go ih (inr h) =
        groups_more j n h
        ∙ ap (λ (l : List ℕ). (128 + n % 128) ∷ l) (ih (some j aj h) (some k bk h) (omega (arith, aj)) (omega (arith, bk)))
        ∙ sym (groups_more k n h)

-- a number has an octet, and no more octets than groups that are enough
pub groups_some : (j n : ℕ) → 1 ≤ j → 1 ≤ length (groups_of j n)
groups_some zero n h = absurd (omega arith)
groups_some (suc j) n h = go (below_or n 128)
  where
    go : (n < 128) ⊎ (128 ≤ n) → 1 ≤ length (groups_of (suc j) n)
    go (inl l) = rw (groups_one j n l) (omega arith)
    go (inr l) = rw (groups_more j n l) (omega arith)

pub groups_few : (j n : ℕ) → length (groups_of j n) ≤ j
groups_few zero n = omega arith
groups_few (suc j) n = go (groups_few j (n / 128)) (below_or n 128)
  where
    go : length (groups_of j (n / 128)) ≤ j → (n < 128) ⊎ (128 ≤ n) → length (groups_of (suc j) n) ≤ suc j
    go ih (inl l) = rw (groups_one j n l) (omega arith)
    go ih (inr l) = rw (groups_more j n l) (omega arith)
