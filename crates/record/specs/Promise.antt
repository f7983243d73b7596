-- What the public functions promise of a record that operations made from rows, and of any other.
use Rattle.std.specs.Prelude.{◌≡◌, cond, ◌&&◌, List, [], ◌∷◌, ℕ, zero, suc, ◌+◌, ◌*◌, ltb, length, get_or, take, Result, Ok, Err, OnErr, ⊤}
use Rattle.refusal.specs.Report.{refusal}
use Rattle.refusal.specs.declared.Reason.TheVariants.{Unknown}
use Rattle.refusal.specs.declared.Refusal.{Refusal}
use Rattle.wire.specs.Frame.{LegalRows, table, wire_octets, sum_of}
use Rattle.wire.specs.declared.Framing.TheVariants.{Unframed}
use Rattle.wire.specs.declared.Row.{Row}
use Rattle.writer.specs.Rows.{Outcome, passed, refused}
use Rattle.record.specs.Afresh.{record_of}
use Rattle.record.specs.Operations.{Operation, outcome_of}
use Rattle.record.specs.declared.Record.{Record}
use Rattle.record.specs.declared.RowNumbers.{RowNumbers}

-- the record is that of these rows, which are in order
pub record MadeFrom (xs : List Row) (p : Record) : Type 0 where
  pub legal : LegalRows Unframed xs
  pub is : p ≡ record_of xs

-- ---- changes

-- what an operation came to: its answer, and the record behind it
pub record Change : Type 0 where
  pub answer : Result ⊤ Refusal
  pub after : Record

abbrev pub change : Result ⊤ Refusal → Record → Change
change r q = record { answer = r; after = q }

-- the change of a record that an outcome stands for; "A refused operation changes nothing"
abbrev pub change_of : Record → Outcome (List Row) → Change
change_of p (passed ys) = change (Ok tt) (record_of ys)
change_of p (refused r place) = change (Err (refusal r place)) p

-- what an operation promises of its answer r and the record q behind it: of a record p made from rows, that of the rows that result, "worked
-- out afresh from the rows", or the refusal; of any record, that a refusal changes nothing
pub record Changes (op : Operation) (p : Record) (r : Result ⊤ Refusal) (q : Record) : Type 0 where
  pub made : (xs : List Row) → MadeFrom xs p → change r q ≡ change_of p (outcome_of op xs)
  pub unchanged : OnErr r (q ≡ p)

-- ---- what is asked

-- the answer is what the record holds, and of a record made from rows what is worked out afresh from them
pub record Asked {A : Type 0} (held : Record → A) (afresh : List Row → A) (p : Record) (r : A) : Type 0 where
  pub answer : r ≡ held p
  pub made : (xs : List Row) → MadeFrom xs p → r ≡ afresh xs

-- the two numbers of a row; 0 under a refusal
abbrev pub row_numbers : ℕ → ℕ → RowNumbers
row_numbers n t = record { kind = n; tc = t }

-- what a record holds for the row i, if there is one; else "a missing row is 12 at 0". No record has more than 200
abbrev pub row_held : ℕ → Record → Result RowNumbers Refusal
row_held i p = cond (ltb i p.rows && ltb i 200) (Ok (row_numbers (get_or p.numbers (2 * i) 0) (get_or p.numbers (2 * i + 1) 0))) (Err (refusal Unknown 0))

-- the row i
abbrev pub row_in : ℕ → List Row → Result RowNumbers Refusal
row_in i [] = Err (refusal Unknown 0)
row_in zero (x ∷ xs) = Ok (row_numbers (table x.kind).number x.tc)
row_in (suc i) (x ∷ xs) = row_in i xs

-- the start that a record holds for the row i, if there is one
abbrev pub start_held : ℕ → Record → Result ℕ Refusal
start_held i p = cond (ltb i p.rows && ltb i 200) (Ok (get_or p.starts i 0)) (Err (refusal Unknown 0))

-- the start of the row i: the octets of the rows before it
abbrev pub start_in : ℕ → List Row → Result ℕ Refusal
start_in i xs = cond (ltb i (length xs)) (Ok (sum_of wire_octets (take i xs))) (Err (refusal Unknown 0))
