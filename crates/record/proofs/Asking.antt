-- What is asked of a record made from rows is what is worked out afresh from them.
use Rattle.std.proofs.Common.{◌≡◌, ℕ, zero, suc, ◌+◌, ◌*◌, ◌<◌, ◌≤◌, ◌⊎◌, inl, inr, List, [], ◌∷◌, Result, Ok, Err, length, get_or, take, refl, sym, ap, ◌∙◌, arith}
use borrow.Author.Tests.{lt-ltb, le-ltb}
use Rattle.std.proofs.lemmas.Bool.{cases_lt}
use Rattle.refusal.specs.Report.{refusal}
use Rattle.refusal.specs.declared.Reason.TheVariants.{Unknown}
use Rattle.refusal.specs.declared.Refusal.{Refusal}
use Rattle.wire.specs.Frame.{wire_octets, sum_of, numbers_of}
use Rattle.wire.specs.declared.Row.{Row}
use Rattle.writer.proofs.WireRows.{length_numbers}
use Rattle.record.specs.Afresh.{starts_from, record_of}
use Rattle.record.specs.Promise.{MadeFrom, Asked, row_numbers, row_held, row_in, start_held, start_in}
use Rattle.record.specs.declared.Record.{Record}
use Rattle.record.specs.declared.RowNumbers.{RowNumbers}
use Rattle.record.proofs.Padding.{get_d_padded}
use Rattle.record.proofs.RowLists.{length_starts, few}

-- a field of the record
pub asked_field : {A : Type 0} {held : Record → A} {afresh : List Row → A} {p : Record} {r : A} → r ≡ held p → ((xs : List Row) → held (record_of xs) ≡ afresh xs) → Asked held afresh p r
asked_field {held = held} e m = record { answer = e; made = λ xs q. e ∙ ap held q.is ∙ m xs }

-- ---- rows

row_index : (xs : List Row) (i : ℕ) → i < length xs → row_in i xs ≡ Ok (row_numbers (get_or (numbers_of xs) (2 * i) 0) (get_or (numbers_of xs) (2 * i + 1) 0))
row_index [] i h = absurd (omega arith)
row_index (x ∷ xs) zero h = refl
row_index (x ∷ xs) (suc i) h =
    let e : 2 * suc i ≡ suc (suc (2 * i)) = omega arith in
    let f : suc (suc (2 * i)) + 1 ≡ suc (suc (2 * i + 1)) = omega arith in
    rw (e, f) (row_index xs i (omega arith))

row_none : (xs : List Row) (i : ℕ) → length xs ≤ i → row_in i xs ≡ Err (refusal Unknown 0)
row_none [] i h = refl
row_none (x ∷ xs) zero h = absurd (omega arith)
row_none (x ∷ xs) (suc i) h = row_none xs i (omega arith)

start_index : (a : ℕ) (xs : List Row) (i : ℕ) → i < length xs → get_or (starts_from a xs) i 0 ≡ a + sum_of wire_octets (take i xs)
start_index a [] i h = absurd (omega arith)
start_index a (x ∷ xs) zero h = omega arith
start_index a (x ∷ xs) (suc i) h = omega (arith, start_index (a + wire_octets x) xs i (omega arith))

module _ (i : ℕ) (p : Record) where
  row_made : (xs : List Row) → MadeFrom xs p → row_held i p ≡ row_in i xs
  unfolding record_of
  row_made xs m = go (cases_lt i (length xs))
    where
      go : (i < length xs) ⊎ (length xs ≤ i) → row_held i p ≡ row_in i xs
      go (inl h) =
          let f = few xs p m in
          simp (lt-ltb i p.rows (omega arith), lt-ltb i 200 (omega arith))
          (rw (m.is, get_d_padded 400 (numbers_of xs) (2 * i) (omega (arith, length_numbers xs)), get_d_padded 400 (numbers_of xs) (2 * i + 1) (omega (arith, length_numbers xs)))
          (sym (row_index xs i h)))
      go (inr h) = let f = few xs p m in simp (le-ltb i p.rows (omega arith)) (sym (row_none xs i h))

  start_made : (xs : List Row) → MadeFrom xs p → start_held i p ≡ start_in i xs
  unfolding record_of
  start_made xs m = go (cases_lt i (length xs))
    where
      go : (i < length xs) ⊎ (length xs ≤ i) → start_held i p ≡ start_in i xs
      go (inl h) =
          let f = few xs p m in
          let at : get_or (starts_from 0 xs) i 0 ≡ sum_of wire_octets (take i xs) = omega (arith, start_index 0 xs i h) in
          simp (lt-ltb i p.rows (omega arith), lt-ltb i 200 (omega arith), lt-ltb i (length xs) h)
          (rw (m.is, get_d_padded 200 (starts_from 0 xs) i (omega (arith, length_starts 0 xs)), at) refl)
      go (inr h) = let f = few xs p m in simp (le-ltb i p.rows (omega arith), le-ltb i (length xs) h)

  -- the answers
  pub row_asked : {r : Result RowNumbers Refusal} → r ≡ row_held i p → Asked (row_held i) (row_in i) p r
  row_asked e = record { answer = e; made = λ xs m. e ∙ row_made xs m }

  pub start_asked : {r : Result ℕ Refusal} → r ≡ start_held i p → Asked (start_held i) (start_in i) p r
  start_asked e = record { answer = e; made = λ xs m. e ∙ start_made xs m }
