-- Laws of decimal digits: one digit or more, how many there are, and the number that they stand for.
use mathlib.Core.Path.{◌≡◌, refl, sym, ap, ◌∙◌}
use mathlib.Core.Logic.{◌⊎◌, inl, inr}
use mathlib.Core.List.{List, [], ◌∷◌, ◌++◌}
use Prim.Native.Nat.{ℕ, zero, suc, ◌+◌, ◌-◌, ◌*◌, ◌/◌, ◌%◌, ◌^◌, ◌≤◌, ◌<◌}
use native.Mathlib.Nat.{pow-suc}
use native.Mathlib.Omega.{arith}
use lib.ListN.{length, length-append}
use borrow.Author.Tests.{lt-ltb, le-ltb}
use Rattle.octets.proofs.Order.{below_or}
use Rattle.listing.specs.Line.{digits, decimal}

pub digits_one : (k n : ℕ) → n < 10 → digits (suc k) n ≡ (48 + n) ∷ []
digits_one k n h = simp (lt-ltb n 10 h)

pub digits_more : (k n : ℕ) → 10 ≤ n → digits (suc k) n ≡ digits k (n / 10) ++ ((48 + n % 10) ∷ [])
digits_more k n h = simp (le-ltb n 10 h)

digits_long : (k n : ℕ) → length (digits k n) ≤ k
digits_long zero n = omega arith
digits_long (suc k) n = go (digits_long k (n / 10)) (below_or n 10)
  where
    go : length (digits k (n / 10)) ≤ k → (n < 10) ⊎ (10 ≤ n) → length (digits (suc k) n) ≤ suc k
    go ih (inl h) = rw (digits_one k n h) (omega arith)
    go ih (inr h) = rw (digits_more k n h) (omega (arith, length-append (digits k (n / 10)) ((48 + n % 10) ∷ [])))

-- more digits than are enough change nothing
digits_enough : (k n : ℕ) → n < 10 ^ suc k → digits (suc k) n ≡ digits (suc (suc k)) n
digits_enough zero n h = let l : n < 10 = h in digits_one 0 n l ∙ sym (digits_one 1 n l)
digits_enough (suc k) n h = go (λ l. digits_enough k (n / 10) l) (below_or n 10)
  where
    go : (n / 10 < 10 ^ suc k → digits (suc k) (n / 10) ≡ digits (suc (suc k)) (n / 10)) → (n < 10) ⊎ (10 ≤ n) → digits (suc (suc k)) n ≡ digits (suc (suc (suc k))) n
    go ih (inl l) = digits_one (suc k) n l ∙ sym (digits_one (suc (suc k)) n l)
    go ih (inr l) =
        digits_more (suc k) n l
        ∙ ap (λ (d : List ℕ). d ++ ((48 + n % 10) ∷ [])) (ih (omega (arith, pow-suc 10 (suc k))))
        ∙ sym (digits_more (suc (suc k)) n l)

pub decimal_one : (n : ℕ) → n < 10 → (48 + n) ∷ [] ≡ decimal n
unfolding decimal
decimal_one n h = sym (digits_one 19 n h)

pub decimal_more : (n : ℕ) → 10 ≤ n → n < 18446744073709551616 → decimal (n / 10) ++ ((48 + n % 10) ∷ []) ≡ decimal n
unfolding decimal
decimal_more n h l = sym (digits_more 19 n h ∙ ap (λ (d : List ℕ). d ++ ((48 + n % 10) ∷ [])) (digits_enough 18 (n / 10) (omega arith)))

pub decimal_long : (n : ℕ) → length (decimal n) ≤ 20
unfolding decimal
decimal_long n = digits_long 20 n

-- a number's digits but the last are at most 19
pub decimal_front : (n : ℕ) → 10 ≤ n → n < 18446744073709551616 → length (decimal (n / 10)) ≤ 19
decimal_front n h l = omega (arith, ap length (decimal_more n h l), length-append (decimal (n / 10)) ((48 + n % 10) ∷ []), decimal_long n)

-- ---- read back

-- the number that digits stand for, behind digits that stand for a
abbrev pub value_from : ℕ → List ℕ → ℕ
value_from a [] = a
value_from a (d ∷ ds) = value_from (a * 10 + (d - 48)) ds

value_last : (a : ℕ) (ds : List ℕ) (d : ℕ) → value_from a (ds ++ (d ∷ [])) ≡ value_from a ds * 10 + (d - 48)
value_last a [] d = refl
value_last a (e ∷ ds) d = value_last (a * 10 + (e - 48)) ds d

digits_value : (k n : ℕ) → n < 10 ^ suc k → value_from 0 (digits (suc k) n) ≡ n
digits_value zero n h = let l : n < 10 = h in rw (digits_one 0 n l) (omega arith)
digits_value (suc k) n h = go (λ l. digits_value k (n / 10) l) (below_or n 10)
  where
    go : (n / 10 < 10 ^ suc k → value_from 0 (digits (suc k) (n / 10)) ≡ n / 10) → (n < 10) ⊎ (10 ≤ n) → value_from 0 (digits (suc (suc k)) n) ≡ n
    go ih (inl l) = rw (digits_one (suc k) n l) (omega arith)
    go ih (inr l) =
        let e : value_from 0 (digits (suc k) (n / 10)) ≡ n / 10 = ih (omega (arith, pow-suc 10 (suc k))) in
        rw (digits_more (suc k) n l) (value_last 0 (digits (suc k) (n / 10)) (48 + n % 10) ∙ rw e (omega arith))

-- a 64-bit number's digits stand for it
pub decimal_value : (n : ℕ) → n < 18446744073709551616 → value_from 0 (decimal n) ≡ n
unfolding decimal
decimal_value n l = digits_value 19 n (omega arith)
