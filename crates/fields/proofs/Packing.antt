-- What the loop of the packer keeps that makes a word of the fields' bits, and the body of a word.
use mathlib.Core.Path.{◌≡◌, refl, sym, ap, ◌∙◌}
use mathlib.Core.List.{List, [], ◌∷◌, ◌++◌, flatten, append_assoc, append-nil}
use Prim.Native.Nat.{ℕ, zero, suc, ◌+◌, ◌*◌, ◌/◌, ◌%◌, ◌^◌, ◌≤◌, ◌<◌}
use native.Mathlib.Nat.{mod-eq_of_lt, lt_of_lt_of_le}
use native.Mathlib.Numerals.{add-one}
use native.Mathlib.Omega.{arith}
use lib.ListN.{length, get_or, take, drop, length-append}
use lib.Arith.{digits_lt}
use lib.Pow.{pow-add, pow_mono, shl_exact}
use lib.Seq.{take_all}
use Rattle.fields.specs.Bits.{digits, spelled, octets_of}
use Rattle.fields.specs.Table.{Table, field_bits, placed, body_of, run}
use Rattle.fields.specs.RoundTrip.{Fitting}
use Rattle.fields.proofs.Digits.{length_digits, take-digits, digits-spelled, spelled-append, spelled-digits, spelled_lt}
use Rattle.fields.proofs.Octets.{octets-take}
use Rattle.fields.proofs.Placed.{placed-run}
use Rattle.fields.proofs.RoundTrip.{zeros, packed_bits}
use Rattle.fields.proofs.Runs.{length_run}
use Rattle.fields.proofs.Tables.{length-field_bits, bits-field_bits, front_step, front_le}

-- ---- the word of fields

-- the bits of one field more
bits_step : (table : Table) (fields : List ℕ) (i : ℕ) → i < length table → length fields ≡ length table
    → field_bits (take (suc i) table) (take (suc i) fields) ≡ field_bits (take i table) (take i fields) ++ digits (length (get_or table i [])) (get_or fields i 0)
unfolding field_bits
bits_step [] fields i h e = absurd (omega arith)
bits_step (ps ∷ table) [] i h e = absurd (omega arith)
bits_step (ps ∷ table) (v ∷ fields) zero h e = append-nil (digits (length ps) v)
bits_step (ps ∷ table) (v ∷ fields) (suc i) h e =
    rw (bits_step table fields i (omega arith) (omega arith))
    (sym (append_assoc (digits (length ps) v) (field_bits (take i table) (take i fields)) (digits (length (get_or table i [])) (get_or fields i 0))))

-- the word has the bits of the fields that were passed
pub record FieldsJoined (table : Table) (fields : List ℕ) (word i : ℕ) : Type 0 where
  pub spells : word ≡ spelled (field_bits (take i table) (take i fields))
  pub small : word < 2 ^ length (flatten (take i table))

module _ (table : Table) (fields : List ℕ) where
  pub joined_start : FieldsJoined table fields 0 0
  unfolding field_bits spelled flatten
  joined_start = record { spells = refl; small = omega arith }

  module _ (word i : ℕ) (h : FieldsJoined table fields word i) (fit : Fitting table fields) where
    module _ (order : flatten table ≡ run 0 54) (l : i < length table) {w : ℕ} (e : w ≡ length (get_or table i [])) where
      room : length (flatten (take i table)) + w ≤ 54
      room = omega (arith, front_le table i l, ap length order, length_run 0 54)

      shifted : word * 2 ^ w % 2 ^ 64 ≡ word * 2 ^ w
      shifted = shl_exact (length (flatten (take i table))) w 64 h.small (omega (arith, room))

      small : word * 2 ^ w + get_or fields i 0 < 2 ^ (length (flatten (take i table)) + w)
      small = rw (pow-add, e) (digits_lt h.small (fit.small i))

      pub joined_lt : word * 2 ^ w % 2 ^ 64 + get_or fields i 0 < 2 ^ 64
      joined_lt = rw shifted (lt_of_lt_of_le small (pow_mono {j = 64} (omega (arith, room))))

      pub joined_step : FieldsJoined table fields (word * 2 ^ w % 2 ^ 64 + get_or fields i 0) (i + 1)
      joined_step = record {
        spells =
            let v : ℕ = get_or fields i 0 in
            let n : spelled (digits (length (get_or table i [])) v) ≡ v = spelled-digits (length (get_or table i [])) v ∙ mod-eq_of_lt (fit.small i) in
            rw (shifted, add-one i, bits_step table fields i l fit.as_many, e, h.spells)
            (sym (spelled-append (field_bits (take i table) (take i fields)) (digits (length (get_or table i [])) v) ∙ rw (n, length_digits)));
        small = rw (shifted, add-one i, front_step table i l, sym e) small;
      }

    pub joined_end : length table ≤ i → word ≡ spelled (field_bits table fields)
    joined_end l = rw (take_all i table l, take_all i fields (omega (arith, fit.as_many))) at h.spells

-- ---- the body of a word

module _ (table : Table) (fields : List ℕ) (order : flatten table ≡ run 0 54) (size : length fields ≡ length table) {word : ℕ} (e : word ≡ spelled (field_bits table fields)) where
  -- the fields' bits are 54
  length-bits : length (field_bits table fields) ≡ 54
  length-bits = length-field_bits table fields size ∙ ap length order ∙ length_run 0 54

  pub word_small : word < 2 ^ 54
  word_small = rw e (rw length-bits at (spelled_lt (field_bits table fields) (bits-field_bits table fields)))

  -- and with two that are 0 behind them, those of the body
  abbrev bits : List ℕ
  bits = field_bits table fields ++ (0 ∷ 0 ∷ [])

  length_all : length bits ≡ 56
  length_all = length-append (field_bits table fields) (0 ∷ 0 ∷ []) ∙ omega (arith, length-bits)

  all_placed : placed (flatten table) (field_bits table fields) zeros ≡ bits
  all_placed =
      ap (λ (ps : List ℕ). placed ps (field_bits table fields) zeros) (order ∙ ap (run 0) (sym length-bits))
      ∙ placed-run [] (field_bits table fields) zeros (omega (arith, length-bits)) ∙ ap (λ (n : ℕ). field_bits table fields ++ drop n zeros) length-bits

  -- they are the first of the 64 of the word, which ten that are 0 follow
  first_bits : take 56 (digits 64 (word * 2 ^ 10)) ≡ bits
  unfolding spelled
  first_bits =
      let four : word * 2 ^ 10 / 2 ^ 8 ≡ spelled bits = omega (arith, e, spelled-append (field_bits table fields) (0 ∷ 0 ∷ [])) in
      take-digits 56 8 (word * 2 ^ 10) ∙ ap (digits 56) four ∙ ap (λ (n : ℕ). digits n (spelled bits)) (sym length_all)
      ∙ digits-spelled bits (rw (sym all_placed) (packed_bits table fields refl))

  pub word_body : octets_of 7 (digits 64 (word * 2 ^ 10 % 2 ^ 64)) ≡ body_of table fields
  unfolding body_of
  word_body =
      rw (shl_exact 54 10 64 word_small (omega arith)) (sym (octets-take 7 (digits 64 (word * 2 ^ 10))) ∙ ap (octets_of 7) (first_bits ∙ sym all_placed))
