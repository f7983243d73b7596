-- Laws of the answers: which checks lead to each, and what the lent buffer then holds.
use mathlib.Core.Path.{◌≡◌, refl, sym, ◌∙◌}
use mathlib.Core.Bool.{Bool, true, false, cond, not}
use mathlib.Core.List.{List, ◌++◌}
use Prim.Native.Nat.{ℕ, ◌≤◌, ◌<◌}
use native.Mathlib.Omega.{arith}
use borrow.Author.Tests.{lt-ltb, le-ltb, eq-eqb, ne_eqb, not-false, eqb-true, ltb-false}
use lib.Dec.{eqb, ltb}
use lib.ListN.{length, get_or, drop}
use Rattle.refusal.specs.Numbers.{number_of}
use Rattle.refusal.specs.Report.{Report, accepted, refusal, filled}
use Rattle.refusal.specs.declared.Reason.{Reason}
use Rattle.refusal.specs.declared.Reason.TheVariants.{ReservedBits, NumbersTooShort, OctetsTooShort, WrongLength, WrongMode, FieldTooLarge}
use Rattle.refusal.proofs.NumberLaws.{number_of-least}
use Rattle.std.specs.Prelude.{Ok, Err}
use Rattle.fields.specs.Table.{fields_of, body_of, first_large, consecutive}
use Rattle.fields.specs.Modes.{is_mode, table_of, count_of}
use Rattle.fields.specs.Widths.{HasWidths}
use Rattle.fields.specs.Answers.{refused, unpacking, packing, Unpacks, Packs}
use Rattle.fields.specs.RoundTrip.{Fitting}
use Rattle.fields.proofs.Large.{none_is_large}
use Rattle.fields.proofs.Modes.{widths_table, widths_count}
use Rattle.fields.proofs.Tables.{length-consecutive}

-- what is accepted is written in front of what the buffer held
pub accepted_fills : {report : Report ℕ} (n : ℕ) (written lent : List ℕ) → report ≡ accepted n → filled report written lent ≡ written ++ drop n lent
unfolding filled
accepted_fills n written lent e = rw e

-- a report with no number has passed a check
passed : (b : Bool) (reason : Reason) (p : ℕ) (report : Report ℕ) → (cond b (refused reason p) report).number ≡ 0 → (b ≡ false) × (report.number ≡ 0)
passed true reason p report h = absurd (omega (arith, number_of-least reason))
passed false reason p report h = (refl, h)

-- ---- unpacking

-- what `unpack` accepts
pub record Unpackable (mode : ℕ) (body : List ℕ) (room : ℕ) : Type 0 where
  pub mode_known : is_mode mode ≡ true
  pub seven : length body ≡ 7
  pub end : get_or body 6 0 ≤ 63
  pub enough : count_of mode ≤ room

module _ (mode : ℕ) (body : List ℕ) (room : ℕ) where
  pub unpackable_accepted : Unpackable mode body room → unpacking mode body room ≡ accepted (count_of mode)
  unfolding unpacking
  unpackable_accepted u =
      rw (u.mode_known, eq-eqb (length body) 7 u.seven, le-ltb 63 (get_or body 6 0) u.end, le-ltb room (count_of mode) u.enough)

  pub accepted_unpackable : (unpacking mode body room).number ≡ 0 → Unpackable mode body room
  unfolding unpacking
  accepted_unpackable h =
      let a = passed (not (is_mode mode)) WrongMode 0 _ h in
      let b = passed (not (eqb (length body) 7)) WrongLength 7 _ a.1 in
      let c = passed (ltb 63 (get_or body 6 0)) ReservedBits 6 _ b.1 in
      let d = passed (ltb room (count_of mode)) NumbersTooShort (count_of mode) _ c.1 in
      record {
        mode_known = not-false (is_mode mode) a.0;
        seven = eqb-true (length body) 7 (not-false (eqb (length body) 7) b.0);
        end = ltb-false 63 (get_or body 6 0) c.0;
        enough = ltb-false room (count_of mode) d.0;
      }

module _ (mode : ℕ) (body before : List ℕ) where
  -- a refusal leaves the lent fields as they are
  unpack_refused : (reason : Reason) (p : ℕ) → unpacking mode body (length before) ≡ refused reason p → Unpacks mode body before before (Err (refusal reason p))
  unfolding filled
  unpack_refused reason p e =
      record { answer = sym e; fields = rw (e, ne_eqb (number_of reason) 0 (λ z. omega (arith, number_of-least reason))) }

  pub unpack_wrong_mode : is_mode mode ≡ false → Unpacks mode body before before (Err (refusal WrongMode 0))
  unfolding unpacking
  unpack_wrong_mode m = unpack_refused WrongMode 0 (rw m)

  module _ {ws : List ℕ} (h : HasWidths mode ws) where
    pub unpack_wrong_length : (length body ≡ 7 → ⊥) → Unpacks mode body before before (Err (refusal WrongLength 7))
    unfolding unpacking
    unpack_wrong_length l = unpack_refused WrongLength 7 (rw (h.known, ne_eqb (length body) 7 l))

    module _ (l : length body ≡ 7) where
      pub unpack_reserved_bits : 63 < get_or body 6 0 → Unpacks mode body before before (Err (refusal ReservedBits 6))
      unfolding unpacking
      unpack_reserved_bits s = unpack_refused ReservedBits 6 (rw (h.known, eq-eqb (length body) 7 l, lt-ltb 63 (get_or body 6 0) s))

      module _ (s : get_or body 6 0 ≤ 63) where
        pub unpack_too_short : length before < length ws → Unpacks mode body before before (Err (refusal NumbersTooShort (length ws)))
        unfolding unpacking
        unpack_too_short t =
            unpack_refused NumbersTooShort (length ws)
            (rw (h.known, eq-eqb (length body) 7 l, le-ltb 63 (get_or body 6 0) s, widths_count h, lt-ltb (length before) (length ws) t))

        pub unpack_accepted : length ws ≤ length before → {after : List ℕ} → after ≡ fields_of (consecutive 0 ws) body
            → Unpacks mode body before (after ++ drop (length ws) before) (Ok (length ws))
        unpack_accepted t {after} f =
            let a : unpacking mode body (length before) ≡ accepted (length ws) =
            rw (widths_count h) at (unpackable_accepted mode body (length before) (record { mode_known = h.known; seven = l; end = s; enough = omega (arith, widths_count h) })) in
            record { answer = sym a; fields = rw (accepted_fills (length ws) (fields_of (table_of mode) body) before a, widths_table h, f) }

-- ---- packing

-- what `pack` accepts
pub record Packable (mode : ℕ) (fields : List ℕ) (room : ℕ) : Type 0 where
  pub mode_known : is_mode mode ≡ true
  pub as_many : length fields ≡ count_of mode
  pub none_large : count_of mode ≤ first_large (table_of mode) fields
  pub enough : 7 ≤ room

module _ (mode : ℕ) (fields : List ℕ) (room : ℕ) where
  pub packable_accepted : Packable mode fields room → packing mode fields room ≡ accepted 7
  unfolding packing
  packable_accepted p =
      rw (
        p.mode_known,
        eq-eqb (length fields) (count_of mode) p.as_many,
        le-ltb (first_large (table_of mode) fields) (count_of mode) p.none_large,
        le-ltb room 7 p.enough,
      )

  pub accepted_packable : (packing mode fields room).number ≡ 0 → Packable mode fields room
  unfolding packing
  accepted_packable h =
      let a = passed (not (is_mode mode)) WrongMode 0 _ h in
      let b = passed (not (eqb (length fields) (count_of mode))) WrongLength (count_of mode) _ a.1 in
      let c = passed (ltb (first_large (table_of mode) fields) (count_of mode)) FieldTooLarge (first_large (table_of mode) fields) _ b.1 in
      let d = passed (ltb room 7) OctetsTooShort 7 _ c.1 in
      record {
        mode_known = not-false (is_mode mode) a.0;
        as_many = eqb-true (length fields) (count_of mode) (not-false (eqb (length fields) (count_of mode)) b.0);
        none_large = ltb-false (first_large (table_of mode) fields) (count_of mode) c.0;
        enough = ltb-false room 7 d.0;
      }

module _ (mode : ℕ) (fields before : List ℕ) where
  -- a refusal leaves the lent octets as they are
  pack_refused : (reason : Reason) (p : ℕ) → packing mode fields (length before) ≡ refused reason p → Packs mode fields before before (Err (refusal reason p))
  unfolding filled
  pack_refused reason p e =
      record { answer = sym e; octets = rw (e, ne_eqb (number_of reason) 0 (λ z. omega (arith, number_of-least reason))) }

  pub pack_wrong_mode : is_mode mode ≡ false → Packs mode fields before before (Err (refusal WrongMode 0))
  unfolding packing
  pack_wrong_mode m = pack_refused WrongMode 0 (rw m)

  module _ {ws : List ℕ} (h : HasWidths mode ws) where
    pub pack_wrong_length : (length fields ≡ length ws → ⊥) → Packs mode fields before before (Err (refusal WrongLength (length ws)))
    unfolding packing
    pack_wrong_length l = pack_refused WrongLength (length ws) (rw (h.known, widths_count h, ne_eqb (length fields) (length ws) l))

    module _ (l : length fields ≡ length ws) where
      pub pack_too_large : {k : ℕ} → k < length fields → k ≡ first_large (consecutive 0 ws) fields → Packs mode fields before before (Err (refusal FieldTooLarge k))
      unfolding packing
      pack_too_large {k} b f =
          pack_refused FieldTooLarge k
          (rw (h.known, widths_count h, eq-eqb (length fields) (length ws) l, widths_table h, sym f, lt-ltb k (length ws) (omega arith)))

      module _ (fit : Fitting (consecutive 0 ws) fields) where
        none_large : length ws ≤ first_large (consecutive 0 ws) fields
        none_large = omega (arith, none_is_large (consecutive 0 ws) fields fit, length-consecutive 0 ws)

        pub pack_too_short : length before < 7 → Packs mode fields before before (Err (refusal OctetsTooShort 7))
        unfolding packing
        pack_too_short s =
            pack_refused OctetsTooShort 7
            (rw (
              h.known,
              widths_count h,
              eq-eqb (length fields) (length ws) l,
              widths_table h,
              le-ltb (first_large (consecutive 0 ws) fields) (length ws) none_large,
              lt-ltb (length before) 7 s,
            ))

        pub pack_accepted : 7 ≤ length before → {after : List ℕ} → after ≡ body_of (consecutive 0 ws) fields → Packs mode fields before (after ++ drop 7 before) (Ok 7)
        pack_accepted s {after} o =
            let a : packing mode fields (length before) ≡ accepted 7 =
            packable_accepted mode fields (length before)
            (record { mode_known = h.known; as_many = l ∙ sym (widths_count h); none_large = rw (widths_count h, widths_table h) none_large; enough = s }) in
            record { answer = sym a; octets = rw (accepted_fills 7 (body_of (table_of mode) fields) before a, widths_table h, o) }
