-- The pairs of a list of numbers, as `as_chunks` gives them.
use mathlib.Core.Path.{◌≡◌, refl, ap, ◌∙◌}
use mathlib.Core.List.{List, [], ◌∷◌, ◌++◌}
use Prim.Native.Nat.{ℕ, zero, suc, ◌+◌, ◌*◌, ◌/◌, ◌%◌, ◌≤◌, ◌<◌}
use native.Mathlib.Nat.{div-add-mod}
use native.Mathlib.Numerals.{add-one}
use native.Mathlib.Omega.{arith}
use lib.ListN.{length, get_or, take, drop, length-drop, take-append-drop, drop_of_length-le}
use lib.Seq.{drop-cons, length-take-le}
use Rattle.std.specs.List.{concat}
use Rattle.std.specs.Simd.{first_chunks}

-- the numbers of the pairs from an index on
abbrev pub left : List (List ℕ) → ℕ → List ℕ
left pairs i = concat (drop i pairs)

joined : (k : ℕ) (ns : List ℕ) → length ns ≡ 2 * k → concat (first_chunks 2 k ns) ≡ ns
joined zero [] e = refl
joined zero (n ∷ ns) e = absurd (omega arith)
joined (suc k) ns e = ap (λ (l : List ℕ). take 2 ns ++ l) (joined k (drop 2 ns) (omega (arith, length-drop 2 ns))) ∙ take-append-drop 2 ns

-- at the front all are left
pub left_all : (ns : List ℕ) → length ns % 2 ≡ 0 → {pairs : List (List ℕ)} → pairs ≡ first_chunks 2 (length ns / 2) ns → left pairs 0 ≡ ns
left_all ns even e = ap concat e ∙ joined (length ns / 2) ns (omega (arith, div-add-mod (length ns) 2))

-- behind the last none are
pub left_none : (pairs : List (List ℕ)) (i : ℕ) → length pairs ≤ i → left pairs i ≡ []
left_none pairs i h = ap concat (drop_of_length-le pairs {i = i} h)

-- each is of two numbers
two : (k : ℕ) (ns : List ℕ) → 2 * k ≤ length ns → (i : ℕ) → i < length (first_chunks 2 k ns) → length (get_or (first_chunks 2 k ns) i []) ≡ 2
two zero ns e i h = absurd (omega arith)
two (suc k) ns e zero h = length-take-le 2 ns (omega arith)
two (suc k) ns e (suc i) h = two k (drop 2 ns) (omega (arith, length-drop 2 ns)) i (omega arith)

-- one pair, and those behind it
pub left_turn : (ns : List ℕ) (pairs : List (List ℕ)) → pairs ≡ first_chunks 2 (length ns / 2) ns → (i : ℕ) → i < length pairs
    → left pairs i ≡ get_or (get_or pairs i []) 0 0 ∷ get_or (get_or pairs i []) 1 0 ∷ left pairs (i + 1)
left_turn ns pairs e i h =
    ap concat (drop-cons pairs i [] h)
    ∙ go (get_or pairs i []) (rw e (two (length ns / 2) ns (omega (arith, div-add-mod (length ns) 2)) i (rw e at h)))
    ∙ rw (add-one i)
  where
    go : (pair : List ℕ) → length pair ≡ 2 → pair ++ concat (drop (suc i) pairs) ≡ get_or pair 0 0 ∷ get_or pair 1 0 ∷ concat (drop (suc i) pairs)
    go [] z = absurd (omega arith)
    go (n ∷ []) z = absurd (omega arith)
    go (n ∷ t ∷ []) z = refl
    go (n ∷ t ∷ m ∷ rest) z = absurd (omega arith)
