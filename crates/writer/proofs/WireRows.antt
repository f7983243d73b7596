-- Laws of wire's rows that wire's own proofs do not hand out: numbers of a kind, what may stand, how many rows there are.
use mathlib.Core.Path.{◌≡◌, refl, sym, ap}
use mathlib.Core.Logic.{◌⊎◌, inl, inr}
use mathlib.Core.Bool.{Bool, true, false, cond}
use mathlib.Core.List.{List, [], ◌∷◌}
use Prim.Native.Nat.{ℕ, suc, ◌+◌, ◌*◌, ◌≤◌}
use native.Mathlib.Omega.{arith}
use lib.Dec.{eqb}
use lib.ListN.{length}
use borrow.Author.Tests.{eqb-true}
use Rattle.std.specs.Prelude.{Some}
use Rattle.wire.specs.Frame.{table, kinds, look_up, kind_of, rate, wire_octets, sum_of, numbers_of, OfRate, LegalRows}
use Rattle.wire.specs.declared.Framing.{Framing}
use Rattle.wire.specs.declared.Kind.{Kind}
use Rattle.wire.specs.declared.Row.{Row}
use Rattle.wire.proofs.TableLaws.{bounds, coder_octets}
use Rattle.wire.proofs.Rates.{either}

-- the number of a kind that was looked up
looked_up : (n : ℕ) (k : Kind) (ks : List Kind) → look_up n ks ≡ Some k → n ≡ (table k).number
looked_up n k [] e = absurd cc
looked_up n k (j ∷ ks) e = go (eqb (table j).number n) refl e (looked_up n k ks)
  where
    go : (b : Bool) → eqb (table j).number n ≡ b → cond b (Some j) (look_up n ks) ≡ Some k → (look_up n ks ≡ Some k → n ≡ (table k).number) → n ≡ (table k).number
    go true t d rest = let q : j ≡ k = cc in rw (← q) (sym (eqb-true (table j).number n t))
    go false t d rest = rest d

pub number_of : (n : ℕ) (k : Kind) → kind_of n ≡ Some k → n ≡ (table k).number
number_of n k e = looked_up n k kinds e

pub length_numbers : (xs : List Row) → length (numbers_of xs) ≡ 2 * length xs
length_numbers [] = refl
length_numbers (x ∷ xs) = omega (arith, length_numbers xs)

-- each row but comfort noise, which is last, takes seven octets or more
rows_octets : (r : ℕ) (xs : List Row) → OfRate r xs → 7 * length xs ≤ sum_of wire_octets xs + 5
rows_octets r [] o = omega arith
rows_octets r (x ∷ xs) o = go (rows_octets r xs o.2) (either r (rate x) xs o.1)
  where
    go : 7 * length xs ≤ sum_of wire_octets xs + 5 → ((rate x ≡ 0) × (xs ≡ [])) ⊎ ((rate x ≡ 0 → ⊥) × (rate x ≡ r)) → 7 * suc (length xs) ≤ wire_octets x + sum_of wire_octets xs + 5
    go ih (inl w) = let b = bounds x.kind in omega (arith, ap length w.1)
    go ih (inr w) = omega (arith, coder_octets x.kind w.0)

-- "at most 200 frames"
pub rows_most : (fr : Framing) (xs : List Row) → LegalRows fr xs → length xs ≤ 200
rows_most fr xs l = omega (arith, rows_octets l.common xs l.rated, l.total)
