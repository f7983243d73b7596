-- What `unpack` and `pack` answer in numbers, and what the lent buffers then hold: docs/FORMAT.md, "Fields" and "Refusals".
use Rattle.std.specs.Prelude.{◌≡◌, cond, not, List, ℕ, ltb, eqb, length, get_or, Result}
use Rattle.refusal.specs.Report.{Report, accepted, refused_with, report_of, refusal, filled}
use Rattle.refusal.specs.declared.Reason.{Reason}
use Rattle.refusal.specs.declared.Reason.TheVariants.{ReservedBits, NumbersTooShort, OctetsTooShort, WrongLength, WrongMode, FieldTooLarge}
use Rattle.refusal.specs.declared.Refusal.{Refusal}
use Rattle.fields.specs.Table.{fields_of, body_of, first_large}
use Rattle.fields.specs.Modes.{is_mode, table_of, count_of}

-- refused for a reason at a place, nothing written
abbrev pub refused : Reason → ℕ → Report ℕ
refused reason place = refused_with 0 (refusal reason place)

-- "Unpacking takes a body of 7: 16, 14, 3, 9", with room for so many fields
unfoldable pub unpacking : ℕ → List ℕ → ℕ → Report ℕ
unpacking mode body room =
    cond (not (is_mode mode)) (refused WrongMode 0)
    (cond (not (eqb (length body) 7)) (refused WrongLength 7)
    (cond (ltb 63 (get_or body 6 0)) (refused ReservedBits 6)
    (cond (ltb room (count_of mode)) (refused NumbersTooShort (count_of mode))
    (accepted (count_of mode)))))

-- "Packing takes exactly the mode's fields: 16, 14, 17 at the first, 10", with room for so many octets
unfoldable pub packing : ℕ → List ℕ → ℕ → Report ℕ
packing mode fields room =
    cond (not (is_mode mode)) (refused WrongMode 0)
    (cond (not (eqb (length fields) (count_of mode))) (refused WrongLength (count_of mode))
    (cond (ltb (first_large (table_of mode) fields) (count_of mode)) (refused FieldTooLarge (first_large (table_of mode) fields))
    (cond (ltb room 7) (refused OctetsTooShort 7)
    (accepted 7))))

-- what `unpack` promises: its answer, and the lent fields afterwards
pub record Unpacks (mode : ℕ) (body before after : List ℕ) (r : Result ℕ Refusal) : Type 0 where
  pub answer : report_of 0 r ≡ unpacking mode body (length before)
  pub fields : after ≡ filled (unpacking mode body (length before)) (fields_of (table_of mode) body) before

-- what `pack` promises: its answer, and the lent octets afterwards
pub record Packs (mode : ℕ) (fields before after : List ℕ) (r : Result ℕ Refusal) : Type 0 where
  pub answer : report_of 0 r ≡ packing mode fields (length before)
  pub octets : after ≡ filled (packing mode fields (length before)) (body_of (table_of mode) fields) before
