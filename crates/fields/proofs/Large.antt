-- Where no field is too large for its bits, all fit, and the other way round.
use mathlib.Core.Path.{◌≡◌, refl, sym, ap, ◌∙◌}
use mathlib.Core.Bool.{cond}
use mathlib.Core.List.{List, [], ◌∷◌}
use Prim.Native.Nat.{ℕ, zero, suc, ◌+◌, ◌*◌, ◌/◌, ◌^◌, ◌≤◌, ◌<◌}
use native.Mathlib.Nat.{div-lt_iff_lt-mul, le-div_iff_mul-le}
use native.Mathlib.Decide.{dec_lt}
use native.Mathlib.Omega.{arith}
use borrow.Author.Tests.{lt-ltb, le-ltb}
use lib.Dec.{ltb}
use lib.ListN.{length, get_or, get_or-eq_default}
use lib.Pow.{pow_pos}
use Rattle.std.specs.Prelude.{Option, Some, None}
use Rattle.std.specs.List.{AllWithin, HoldsAt, zip}
use Rattle.std.specs.Option.{MatchOption}
use Rattle.std.proofs.lemmas.List.{get_or_default}
use Rattle.std.proofs.lemmas.Slice.Zip.{length-zip, get_or-zip}
use Rattle.fields.specs.Table.{Table, first_large, consecutive}
use Rattle.fields.specs.RoundTrip.{Fitting}
use Rattle.fields.specs.Widths.{IsWidths, FindsLarge}
use Rattle.fields.proofs.Runs.{length_run}
use Rattle.fields.proofs.Tables.{length-consecutive, width_consecutive}

-- the first fits, and so do the others
first_fits : (v w n k : ℕ) → suc n ≤ cond (ltb v (2 ^ w)) (suc k) 0 → (v < 2 ^ w) × (n ≤ k)
first_fits v w n k h = go (dec_lt v (2 ^ w))
  where
    go : Dec (v < 2 ^ w) → (v < 2 ^ w) × (n ≤ k)
    go (yes l) = (l, omega (arith, rw (lt-ltb v (2 ^ w) l) at h))
    go (no l) = absurd (omega (arith, rw (le-ltb v (2 ^ w) (omega arith)) at h))

none_large : (table : Table) (fields : List ℕ) → length fields ≡ length table → length table ≤ first_large table fields
    → (i : ℕ) → get_or fields i 0 < 2 ^ length (get_or table i [])
unfolding first_large
none_large [] [] e h i = omega arith
none_large [] (v ∷ fields) e h i = absurd (omega arith)
none_large (ps ∷ table) [] e h i = absurd (omega arith)
none_large (ps ∷ table) (v ∷ fields) e h zero = (first_fits v (length ps) (length table) (first_large table fields) h).0
none_large (ps ∷ table) (v ∷ fields) e h (suc i) =
    none_large table fields (omega arith) (first_fits v (length ps) (length table) (first_large table fields) h).1 i

-- where none is too large, all fit: n is their number, k the index of the first that is too large
pub all_fit : (table : Table) (fields : List ℕ) {n k : ℕ} → n ≡ length table → length fields ≡ n → k ≡ first_large table fields → n ≤ k
    → Fitting table fields
all_fit table fields c e f h =
    record { as_many = e ∙ c; small = none_large table fields (e ∙ c) (omega arith) }

-- of fields that fit none is
pub none_is_large : (table : Table) (fields : List ℕ) → Fitting table fields → first_large table fields ≡ length table
unfolding first_large
none_is_large [] fields fit = refl
none_is_large (ps ∷ table) [] fit = absurd (omega (arith, fit.as_many))
none_is_large (ps ∷ table) (v ∷ fields) fit =
    let rest : Fitting table fields = record { as_many = omega (arith, fit.as_many); small = λ i. fit.small (suc i) } in
    rw (lt-ltb v (2 ^ length ps) (fit.small 0), none_is_large table fields rest)

-- ---- a field and its width, where the fields are those of neighbouring bits

-- the field has a bit above its width, or none
abbrev pub IsLarge : ℕ × ℕ → Type 0
IsLarge p = p.0 / 2 ^ p.1 ≡ 0 → ⊥

abbrev pub IsSmall : ℕ × ℕ → Type 0
IsSmall p = p.0 / 2 ^ p.1 ≡ 0

is_small : (v w : ℕ) → v / 2 ^ w ≡ 0 → v < 2 ^ w
is_small v w h = let s : v < 1 * 2 ^ w = (div-lt_iff_lt-mul (pow_pos w)).0 (omega arith) in omega arith

is_large : (v w : ℕ) → (v / 2 ^ w ≡ 0 → ⊥) → 2 ^ w ≤ v
is_large v w h = let s : 1 * 2 ^ w ≤ v = (le-div_iff_mul-le (pow_pos w)).0 (omega arith) in omega arith

-- one that follows only smaller ones is the first that is too large
first_at : (at : ℕ) (ws fields : List ℕ) (i : ℕ) → i < length ws → i < length fields → ((k : ℕ) → k < i → get_or fields k 0 < 2 ^ get_or ws k 0)
    → 2 ^ get_or ws i 0 ≤ get_or fields i 0 → i ≡ first_large (consecutive at ws) fields
unfolding first_large consecutive
first_at at [] fields i l m below here = absurd (omega arith)
first_at at (w ∷ ws) [] i l m below here = absurd (omega arith)
first_at at (w ∷ ws) (v ∷ fields) zero l m below here = rw (length_run at w, le-ltb v (2 ^ w) here)
first_at at (w ∷ ws) (v ∷ fields) (suc i) l m below here =
    rw (length_run at w, lt-ltb v (2 ^ w) (below 0 (omega arith)))
    (ap suc (first_at (at + w) ws fields i (omega arith) (omega arith) (λ k b. below (suc k) (omega arith)) here))

module _ (ws fields : List ℕ) (size : length fields ≡ length ws) where
  abbrev pairs : List (ℕ × ℕ)
  pairs = zip fields ws

  pub length-pairs : length pairs ≡ length fields
  length-pairs = length-zip fields ws ∙ omega arith

  pub pair_at : (k : ℕ) (d : ℕ × ℕ) → k < length fields → get_or pairs k d ≡ (get_or fields k 0, get_or ws k 0)
  pair_at k d l = get_or_default pairs k d (0, 0) (omega (arith, length-pairs)) ∙ get_or-zip fields ws k (0, 0) l (omega arith)

  -- a width is no more than the bits of a field
  pub width_at : IsWidths ws → (k v w : ℕ) → k < length pairs → (v, w) ≡ get_or pairs k (v, w) → w < 16
  width_at ruled k v w l e =
      let m : k < length fields = omega (arith, length-pairs) in
      let at : w ≡ get_or ws k 0 = ap (λ (p : ℕ × ℕ). p.1) (e ∙ pair_at k (v, w) m) in
      omega (arith, ruled.each k (omega arith))

  small_at : (k : ℕ) → k < length fields → IsSmall (get_or pairs k (0, 0)) → get_or fields k 0 < 2 ^ get_or ws k 0
  small_at k l h = is_small _ _ (rw (pair_at k (0, 0) l) at h)

  -- what `position` finds among them
  pub found_large : (r : Option ℕ) → MatchOption r (AllWithin IsSmall pairs 0 (length pairs)) (λ i. (i < length pairs) × HoldsAt IsLarge pairs i × AllWithin IsSmall pairs 0 i)
      → FindsLarge ws fields r
  found_large None h = record {
    as_many = size ∙ sym (length-consecutive 0 ws);
    small = λ i. rw (width_consecutive 0 ws i) (go i (dec_lt i (length fields)));
  }
    where
      go : (i : ℕ) → Dec (i < length fields) → get_or fields i 0 < 2 ^ get_or ws i 0
      go i (yes l) = small_at i l (h i (0, 0) (omega arith) (omega (arith, length-pairs)))
      go i (no l) = rw (get_or-eq_default fields 0 {n = i} (omega arith)) (pow_pos (get_or ws i 0))
  found_large (Some i) (l, here, before) =
      let m : i < length fields = omega (arith, length-pairs) in
      (m, first_at 0 ws fields i (omega arith) m (λ k b. small_at k (omega arith) (before k (0, 0) (omega arith) b)) (is_large _ _ (rw (pair_at i (0, 0) m) at (here (0, 0)))))
