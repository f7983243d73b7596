-- The law of packing and unpacking, once over every table that names each bit of a body exactly once.
use mathlib.Core.Path.{◌≡◌, refl, sym, ap, ◌∙◌}
use mathlib.Core.List.{List, [], map, flatten}
use Prim.Native.Nat.{ℕ, ◌/◌, ◌%◌, ◌^◌, ◌≤◌, ◌<◌}
use native.Mathlib.Nat.{mod-eq_of_lt, div-eq_of_lt, zero-mod, lt_of_lt_of_le}
use native.Mathlib.Decide.{dec_lt}
use native.Mathlib.Omega.{arith}
use borrow.Author.Tests.{lt-ltb, le-ltb}
use lib.ListN.{length, get_or, replicate, length-map, get_or-map}
use lib.Pow.{pow_mono}
use lib.Seq.{ext_get_or}
use Rattle.fields.specs.Bits.{spelled, bits_of, octets_of}
use Rattle.fields.specs.Table.{Table, field_of, fields_of, field_bits, placed, body_of, consecutive}
use Rattle.fields.specs.RoundTrip.{times, total, EachOnce, LegalBody, Fitting, RoundTrip}
use Rattle.fields.proofs.Digits.{Bits, spelled_lt}
use Rattle.fields.proofs.Octets.{length-bits, bit_is, bits-bits, octets_bits, bits_octets, length_octets, octet_lt}
use Rattle.fields.proofs.Placed.{length-placed, bits-placed, placed_other, placed_here, placed_same}
use Rattle.fields.proofs.Tables.{length-field_bits, bits-field_bits, bits-map, field_bits-spelled, spelled-field_bits, zeros_at, consecutive_once}

-- a body's bits before any field is put there
abbrev pub zeros : List ℕ
zeros = replicate 56 0

bits-zeros : Bits zeros
bits-zeros i = rw (zeros_at 56 i) (omega arith)

-- what is put into zeros is bits, 56 of them
module _ (table : Table) (fields : List ℕ) {bits : List ℕ} (e : bits ≡ placed (flatten table) (field_bits table fields) zeros) where
  pub packed_bits : Bits bits
  packed_bits = rw e (bits-placed (flatten table) (field_bits table fields) zeros (bits-field_bits table fields) bits-zeros)

  packed_length : length bits ≡ 56
  packed_length = ap length e ∙ length-placed (flatten table) (field_bits table fields) zeros

-- an octet whose two highest bits are 0
low_six : (x : ℕ) → x < 256 → x / 64 % 2 ≡ 0 → x / 128 % 2 ≡ 0 → x ≤ 63
low_six x h a b =
    let s : x / 128 ≡ 0 = sym (mod-eq_of_lt (omega arith)) ∙ b in
    let t : x / 64 ≡ 0 = sym (mod-eq_of_lt (omega arith)) ∙ a in
    omega arith

module _ (table : Table) (each : EachOnce table) where
  named : (p : ℕ) → p < 54 → times p (flatten table) ≡ 1
  named p h = each.once p ∙ rw (lt-ltb p 54 h)

  unnamed : (p : ℕ) → 54 ≤ p → times p (flatten table) ≡ 0
  unnamed p h = each.once p ∙ rw (le-ltb p 54 h)

  at_most_once : (p : ℕ) → times p (flatten table) ≤ 1
  at_most_once p = go (dec_lt p 54)
    where
      go : Dec (p < 54) → times p (flatten table) ≤ 1
      go (yes h) = omega (arith, named p h)
      go (no h) = omega (arith, unnamed p (omega arith))

  inside : (p : ℕ) → 1 ≤ times p (flatten table) → p < length zeros
  inside p h = go (dec_lt p 54)
    where
      go : Dec (p < 54) → p < 56
      go (yes l) = omega arith
      go (no l) = absurd (omega (arith, unnamed p (omega arith)))

  module _ (fields : List ℕ) where
    bits : List ℕ
    bits = placed (flatten table) (field_bits table fields) zeros

    -- the bits of a packed body
    bits_body : bits_of (body_of table fields) ≡ bits
    unfolding body_of bits
    bits_body = bits_octets 7 bits (packed_bits table fields refl) (packed_length table fields refl)

    -- those behind the 54th are 0
    free : (p : ℕ) → 54 ≤ p → p < 56 → get_or (body_of table fields) (p / 8) 0 / 2 ^ (p % 8) % 2 ≡ 0
    unfolding bits
    free p h l =
        sym (bit_is (body_of table fields) p) ∙ ap (λ (bs : List ℕ). get_or bs p 0) bits_body
        ∙ placed_other p (flatten table) (field_bits table fields) zeros (unnamed p h) ∙ zeros_at 56 p

    -- a packed body is a legal body, whatever the fields
    packed_legal : LegalBody (body_of table fields)
    unfolding body_of bits
    packed_legal = record {
      seven = length_octets 7 bits;
      octets = octet_lt 7 bits (packed_bits table fields refl);
      end = low_six (get_or (body_of table fields) 6 0) (octet_lt 7 bits (packed_bits table fields refl) 6) (free 54 (omega arith) (omega arith)) (free 55 (omega arith) (omega arith));
    }

    -- unpacking what was packed gives the fields
    unpack_packed : Fitting table fields → fields_of table (body_of table fields) ≡ fields
    unfolding fields_of field_of bits
    unpack_packed fit =
        ap (λ (bs : List ℕ). map (λ (ps : List ℕ). spelled (map (λ (p : ℕ). get_or bs p 0) ps)) table) bits_body
        ∙ (spelled-field_bits (λ (p : ℕ). get_or bits p 0) table fields fit.as_many fit.small
        (placed_here (flatten table) (field_bits table fields) zeros (length-field_bits table fields fit.as_many)
        (λ p. at_most_once p) (λ p h. inside p h)))

  -- packing what was unpacked gives the body
  pack_unpacked : (body : List ℕ) → LegalBody body → body_of table (fields_of table body) ≡ body
  unfolding body_of fields_of field_of
  pack_unpacked body legal =
      rw (field_bits-spelled bit (bits-bits body) table, same)
      (ap (λ (n : ℕ). octets_of n (bits_of body)) (sym legal.seven) ∙ octets_bits body legal.octets)
    where
      bit : ℕ → ℕ
      bit p = get_or (bits_of body) p 0

      -- a legal body has no bit behind the 54th
      free_of : (p : ℕ) → 54 ≤ p → p < 56 → bit p ≡ 0
      free_of p h l =
          let q : p / 8 ≡ 6 = omega arith in
          let r : 6 ≤ p % 8 = omega arith in
          let d : get_or body (p / 8) 0 < 2 ^ (p % 8) = rw q (lt_of_lt_of_le (omega (arith, legal.end)) (pow_mono r)) in
          bit_is body p ∙ rw (div-eq_of_lt d, zero-mod)

      at : (p : ℕ) → p < 56 → Dec (p < 54) → get_or (placed (flatten table) (map bit (flatten table)) zeros) p 0 ≡ bit p
      at p l (yes h) = placed_same bit (flatten table) zeros p l (omega (arith, named p h))
      at p l (no h) =
          placed_other p (flatten table) (map bit (flatten table)) zeros (unnamed p (omega arith))
          ∙ zeros_at 56 p ∙ sym (free_of p (omega arith) l)

      as_many : length (placed (flatten table) (map bit (flatten table)) zeros) ≡ 56
      as_many = length-placed (flatten table) (map bit (flatten table)) zeros

      same : placed (flatten table) (map bit (flatten table)) zeros ≡ bits_of body
      same =
          ext_get_or 0 (placed (flatten table) (map bit (flatten table)) zeros) (bits_of body) (omega (arith, as_many, length-bits body, legal.seven))
          (λ p h. at p (omega (arith, as_many)) (dec_lt p 54))

-- fields that were unpacked fit
pub unpacked_fit : (table : Table) (body : List ℕ) → Fitting table (fields_of table body)
unfolding fields_of field_of spelled
unpacked_fit table body = record {
  as_many = length-map table (field_of body);
  small = λ i.
      let ps : List ℕ = get_or table i [] in
      let bs : List ℕ = map (λ (p : ℕ). get_or (bits_of body) p 0) ps in
      rw (get_or-map (field_of body) table i [])
      (rw (length-map ps (λ (p : ℕ). get_or (bits_of body) p 0)) at (spelled_lt bs (bits-map (λ (p : ℕ). get_or (bits_of body) p 0) (bits-bits body) ps)));
}

-- the law, for every table that names each bit of a body exactly once
pub round_trip : (table : Table) → EachOnce table → RoundTrip table
round_trip table each = record {
  body_again = pack_unpacked table each;
  fields_again = unpack_packed table each;
  legal = packed_legal table each;
}

-- and so for every list of widths with the sum 54
pub widths_round_trip : (ws : List ℕ) → total ws ≡ 54 → RoundTrip (consecutive 0 ws)
widths_round_trip ws e = round_trip (consecutive 0 ws) (consecutive_once ws e)
