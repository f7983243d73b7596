-- "After each operation, starts and ticks equal those worked out afresh from the rows": any run of operations from the empty record.
use Rattle.std.specs.Prelude.{◌≡◌, List, [], ◌∷◌, ℕ, ◌≤◌}
use Rattle.refusal.specs.Numbers.{number_of}
use Rattle.refusal.specs.declared.Reason.{Reason}
use Rattle.wire.specs.Frame.{LegalRows}
use Rattle.wire.specs.declared.Framing.TheVariants.{Unframed}
use Rattle.wire.specs.declared.Row.{Row}
use Rattle.writer.specs.Rows.{Outcome, passed, refused}
use Rattle.record.specs.Afresh.{record_of}
use Rattle.record.specs.Operations.{Operation, outcome_of}
use Rattle.record.specs.Promise.{MadeFrom, Change, Changes}
use Rattle.record.specs.declared.Record.{Record}

-- the rows behind an operation: those that result, or where it is refused those that there were
abbrev pub rows_or : List Row → Outcome (List Row) → List Row
rows_or xs (passed ys) = ys
rows_or xs (refused r place) = xs

-- the rows behind a run of operations
abbrev pub rows_after : List Operation → List Row → List Row
rows_after [] xs = xs
rows_after (op ∷ ops) xs = rows_after ops (rows_or xs (outcome_of op xs))

-- such a run from the record p leaves the record q: each operation kept its promise of the record before it
abbrev pub Run : List Operation → Record → Record → Type 0
Run [] p q = q ≡ p
Run (op ∷ ops) p q = (c : Change) × Changes op p c.answer c.after × Run ops c.after q

pub record RunsAfresh : Type 0 where
  -- behind any run of operations from the empty record, refused ones among them, the record is that of the rows of the run, worked out
  -- afresh, and these are in order
  pub made : (ops : List Operation) (q : Record) → Run ops (record_of []) q → MadeFrom (rows_after ops []) q
  -- the rows that result of an operation are in order, whatever there was before it
  pub legal : (op : Operation) (xs ys : List Row) → outcome_of op xs ≡ passed ys → LegalRows Unframed ys
  -- a refusal has a number: 0 says that the operation was accepted
  pub numbered : (op : Operation) (xs : List Row) (r : Reason) (place : ℕ) → outcome_of op xs ≡ refused r place → 1 ≤ number_of r
