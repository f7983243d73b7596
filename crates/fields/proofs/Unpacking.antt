-- What the loops of the unpacker keep: the one that joins each octet of a body with its neighbour, and the one that takes fields of these pairs.
use mathlib.Core.Path.{◌≡◌, refl, sym, ap, ◌∙◌}
use mathlib.Core.List.{List, [], ◌∷◌, map, flatten, append-nil, reverse}
use Prim.Native.Nat.{ℕ, zero, suc, ◌+◌, ◌-◌, ◌*◌, ◌/◌, ◌%◌, ◌^◌, ◌≤◌, ◌<◌}
use native.Mathlib.Numerals.{add-one}
use native.Mathlib.Decide.{dec_lt}
use native.Mathlib.Omega.{arith}
use borrow.Author.Tests.{eqb-true}
use lib.Bits.{bit_and, and_mask}
use lib.Dec.{eqb}
use lib.ListN.{length, get_or, set, replicate, take, length-set, length-map, get_or-map, get_or-eq_default}
use lib.Pow.{field, shl-shr, shr-shr}
use lib.Seq.{get_or-set_same, get_or-set_other}
use Rattle.fields.specs.Bits.{digits, spelled, bits_of}
use Rattle.fields.specs.Table.{Table, field_of, fields_of, run}
use Rattle.fields.proofs.Computed.{every_below}
use Rattle.fields.proofs.Digits.{spelled-append, spelled-part}
use Rattle.fields.proofs.Filled.{Filled, filled_start, filled_step, filled_end}
use Rattle.fields.proofs.Octets.{length_octet, reversed_lt, bit_is, bits-bits, length-bits}
use Rattle.fields.proofs.Runs.{length_run, map-run}
use Rattle.fields.proofs.Tables.{field_run, front_step, front_le}

-- ---- two neighbouring octets

-- an octet and the one behind it; behind the last one stands 0
abbrev pub neighbours : List ℕ → ℕ → List ℕ
neighbours body k = get_or body k 0 ∷ get_or body (k + 1) 0 ∷ []

-- the number of an octet's bits, B_01 the highest
abbrev pub reversed : ℕ → ℕ
reversed octet = spelled (reverse (digits 8 octet))

pair_is : (x y : ℕ) → reversed x * 256 + reversed y ≡ spelled (bits_of (x ∷ y ∷ []))
unfolding bits_of
pair_is x y =
    let first : List ℕ = reverse (digits 8 x) in
    let second : List ℕ = reverse (digits 8 y) in
    rw (append-nil second) (sym (spelled-append first second ∙ ap (λ (n : ℕ). spelled first * 2 ^ n + spelled second) (length_octet y)))

module _ (body : List ℕ) where
  neighbour_at : (k j : ℕ) → j < 2 → get_or body (k + j) 0 ≡ get_or (neighbours body k) j 0
  neighbour_at k zero h = ap (λ (n : ℕ). get_or body n 0) (omega arith)
  neighbour_at k (suc zero) h = refl
  neighbour_at k (suc (suc j)) h = absurd (omega arith)

  -- a bit of the two, in the body
  bit_at : (k p : ℕ) → p < 16 → get_or (bits_of body) (8 * k + p) 0 ≡ get_or (bits_of (neighbours body k)) p 0
  bit_at k p h =
      let d : (8 * k + p) / 8 ≡ k + p / 8 = omega arith in
      let m : (8 * k + p) % 8 ≡ p % 8 = omega arith in
      bit_is body (8 * k + p) ∙ rw (d, m, neighbour_at k (p / 8) (omega arith)) (sym (bit_is (neighbours body k) p))

  bits_at : (k skip w : ℕ) → skip + w ≤ 16
      → map (λ (p : ℕ). get_or (bits_of body) p 0) (run (8 * k + skip) w) ≡ map (λ (p : ℕ). get_or (bits_of (neighbours body k)) p 0) (run skip w)
  unfolding run
  bits_at k skip zero h = refl
  bits_at k skip (suc w) h =
      let e : suc (8 * k + skip) ≡ 8 * k + suc skip = omega arith in
      rw (bit_at k skip (omega arith), e, bits_at k (suc skip) w (omega arith))

  -- w neighbouring bits out of two octets, the one where they begin and the one behind: j bits of the two are left behind them
  pub window : (at w j : ℕ) → at + (w + j) ≡ 8 * (at / 8) + 16
      → field_of body (run at w) ≡ spelled (bits_of (neighbours body (at / 8))) / 2 ^ j % 2 ^ w
  unfolding field_of
  window at w j e =
      let k : ℕ = at / 8 in
      let two : List ℕ = bits_of (neighbours body k) in
      let s : at ≡ 8 * k + at % 8 = omega arith in
      let n : at % 8 + (w + j) ≡ length two = omega (arith, length-bits (neighbours body k)) in
      ap (λ (a : ℕ). spelled (map (λ (p : ℕ). get_or (bits_of body) p 0) (run a w))) s
      ∙ ap spelled (bits_at k (at % 8) w (omega arith) ∙ map-run two (at % 8) w (omega arith))
      ∙ spelled-part two (bits-bits (neighbours body k)) (at % 8) w j n

-- ---- the pairs of a body

-- the pairs from i on are made, and the octet at i is at hand
pub record Paired (body pairs : List ℕ) (behind i : ℕ) : Type 0 where
  pub within : i ≤ 7
  pub as_many : length pairs ≡ 7
  pub octet : behind ≡ reversed (get_or body i 0)
  pub made : (k : ℕ) → i ≤ k → k < 7 → get_or pairs k 0 ≡ spelled (bits_of (neighbours body k))

module _ (body : List ℕ) where
  pub paired_start : length body ≡ 7 → Paired body (replicate 7 0) 0 7
  unfolding digits spelled
  paired_start seven = record {
    within = omega arith;
    as_many = refl;
    octet = rw (get_or-eq_default body 0 {n = 7} (omega arith));
    made = λ k l h. absurd (omega arith);
  }

  module _ (pairs : List ℕ) (behind i : ℕ) (h : Paired body pairs behind i) where
    pub paired_small : {octet : ℕ} → octet ≡ reversed (get_or body (i - 1) 0) → octet * 256 + behind < 65536
    paired_small e = omega (arith, reversed_lt (get_or body (i - 1) 0), reversed_lt (get_or body i 0), h.octet)

    pub paired_step : 0 < i → {octet : ℕ} → octet ≡ reversed (get_or body (i - 1) 0) → Paired body (set pairs (i - 1) (octet * 256 + behind)) octet (i - 1)
    paired_step l {octet} e = record {
      within = omega (arith, h.within);
      as_many = length-set pairs (i - 1) (octet * 256 + behind) ∙ h.as_many;
      octet = e;
      made = λ k f b. go k f b (dec_lt (i - 1) k);
    }
      where
        v : ℕ
        v = octet * 256 + behind

        here : get_or (set pairs (i - 1) v) (i - 1) 0 ≡ spelled (bits_of (neighbours body (i - 1)))
        here =
            let n : i ≡ i - 1 + 1 = omega arith in
            get_or-set_same pairs (i - 1) v 0 (omega (arith, h.within, h.as_many))
            ∙ rw (e, h.octet ∙ ap (λ (m : ℕ). reversed (get_or body m 0)) n) (pair_is (get_or body (i - 1) 0) (get_or body (i - 1 + 1) 0))

        go : (k : ℕ) → i - 1 ≤ k → k < 7 → Dec (i - 1 < k) → get_or (set pairs (i - 1) v) k 0 ≡ spelled (bits_of (neighbours body k))
        go k f b (yes m) = get_or-set_other pairs (i - 1) k v 0 (λ q. omega arith) ∙ h.made k (omega arith) b
        go k f b (no m) =
            let q : i - 1 ≡ k = omega arith in
            rw (← q) here

-- ---- fields of pairs

-- the lowest bits of a number by a mask, as fields were taken before they were shifted (docs/changes/02-unpacking.md)
abbrev pub lowest : List ℕ
lowest = 0 ∷ 1 ∷ 3 ∷ 7 ∷ 15 ∷ 31 ∷ 63 ∷ 127 ∷ 255 ∷ 511 ∷ []

pub masked : (v w : ℕ) → w ≤ 9 → bit_and v (get_or lowest w 0) ≡ v % 2 ^ w
unfolding run
masked v w h =
    ap (bit_and v) (eqb-true (get_or lowest w 0) (2 ^ w - 1) (every_below (λ (n : ℕ). eqb (get_or lowest n 0) (2 ^ n - 1)) 10 refl w (omega arith))) ∙ and_mask v w

-- bits in front of a field and behind it, shifted away
pub shifted : (v before w j : ℕ) → before + (w + j) ≡ 16 → v * 2 ^ before % 2 ^ 16 / 2 ^ (16 - w) ≡ v / 2 ^ j % 2 ^ w
shifted v before w j e =
    let all : 16 ≡ w + (before + j) = omega arith in
    let behind : 16 - w ≡ before + j = omega arith in
    ap (λ (n : ℕ). v * 2 ^ before % 2 ^ n / 2 ^ (16 - w)) all
    ∙ ap (λ (n : ℕ). v * 2 ^ before % 2 ^ (w + (before + j)) / 2 ^ n) behind
    ∙ field (v * 2 ^ before) w (before + j)
    ∙ ap (λ (n : ℕ). n % 2 ^ w) (sym (shr-shr (v * 2 ^ before) before j) ∙ ap (λ (n : ℕ). n / 2 ^ j) (shl-shr v before))

-- the fields that were passed are filled, and they have the bits in front of at
pub record FieldsTaken (table : Table) (body old now : List ℕ) (at i : ℕ) : Type 0 where
  pub front : at ≡ length (flatten (take i table))
  pub fills : Filled (fields_of table body) old now i

module _ (table : Table) (body old : List ℕ) where
  pub taken_start : FieldsTaken table body old old 0 0
  unfolding flatten
  taken_start = record { front = refl; fills = filled_start (fields_of table body) old }

  length_fields : length (fields_of table body) ≡ length table
  unfolding fields_of
  length_fields = length-map table (field_of body)

  module _ (now : List ℕ) (at i : ℕ) (h : FieldsTaken table body old now at i) (size : length old ≡ length table) where
    module _ (order : flatten table ≡ run 0 54) (l : i < length table) {w : ℕ} (e : w ≡ length (get_or table i [])) where
      pub taken_room : at + w ≤ 54
      taken_room = omega (arith, h.front, front_le table i l, ap length order, length_run 0 54)

      field_is : (j : ℕ) → at + (w + j) ≡ 8 * (at / 8) + 16 → spelled (bits_of (neighbours body (at / 8))) / 2 ^ j % 2 ^ w ≡ get_or (fields_of table body) i 0
      unfolding fields_of field_of spelled
      field_is j n =
          sym (window body at w j n) ∙ rw (h.front, e, ← (field_run table 54 order i l)) (sym (get_or-map (field_of body) table i []))

      pub taken_step : (j : ℕ) → at + (w + j) ≡ 8 * (at / 8) + 16 → {pair v : ℕ} → pair ≡ spelled (bits_of (neighbours body (at / 8))) → v ≡ pair / 2 ^ j % 2 ^ w
          → FieldsTaken table body old (set now i v) (at + w) (i + 1)
      taken_step j n {pair} {v} is f = record {
        front = rw (add-one i) (omega (arith, h.front, front_step table i l));
        fills =
            filled_step (fields_of table body) old now i h.fills (length_fields ∙ sym size) (omega (arith, length_fields))
            (f ∙ ap (λ (m : ℕ). m / 2 ^ j % 2 ^ w) is ∙ field_is j n);
      }

    pub taken_end : length table ≤ i → now ≡ fields_of table body
    taken_end l = filled_end (fields_of table body) old now i h.fills (length_fields ∙ sym size) (omega (arith, length_fields))
