-- Any run of operations from the empty record: the record is that of the rows, worked out afresh. By induction over the run.
use Rattle.std.proofs.Common.{◌≡◌, ℕ, List, [], ◌∷◌, Option, Some, None, inl, refl, ap, ◌∙◌, arith}
use Rattle.refusal.proofs.NumberLaws.{number_of-least}
use Rattle.wire.specs.Frame.{LegalRows}
use Rattle.wire.specs.declared.Framing.TheVariants.{Unframed}
use Rattle.wire.specs.declared.Row.{Row}
use Rattle.writer.specs.Rows.{Outcome, passed, refused}
use Rattle.writer.proofs.Outcomes.{not_passed}
use Rattle.writer.proofs.RowSequences.{checked_legal}
use Rattle.record.specs.Afresh.{record_of}
use Rattle.record.specs.Operations.{Operation, wanted, checked, outcome_of}
use Rattle.record.specs.Promise.{MadeFrom, Change, change_of, Changes}
use Rattle.record.specs.Runs.{rows_or, rows_after, Run, RunsAfresh}
use Rattle.record.specs.declared.Record.{Record}

-- the rows that result are in order
pub outcome_legal : (op : Operation) (xs ys : List Row) → outcome_of op xs ≡ passed ys → LegalRows Unframed ys
unfolding outcome_of
outcome_legal op xs ys e = go (wanted op xs) e
  where
    go : (o : Option (List ℕ)) → checked o ≡ passed ys → LegalRows Unframed ys
    go None q = not_passed q
    go (Some ns) q = (checked_legal Unframed ns ys q).1

-- one operation
pub changed : (op : Operation) (xs : List Row) (p : Record) (c : Change) → MadeFrom xs p → Changes op p c.answer c.after → MadeFrom (rows_or xs (outcome_of op xs)) c.after
changed op xs p c m w = go (outcome_of op xs) refl (w.made xs m)
  where
    go : (o : Outcome (List Row)) → outcome_of op xs ≡ o → c ≡ change_of p o → MadeFrom (rows_or xs o) c.after
    go (passed ys) q e = record { legal = outcome_legal op xs ys q; is = ap (λ (x : Change). x.after) e }
    go (refused r place) q e = record { legal = m.legal; is = ap (λ (x : Change). x.after) e ∙ m.is }

run : (ops : List Operation) (xs : List Row) (p q : Record) → MadeFrom xs p → Run ops p q → MadeFrom (rows_after ops xs) q
run [] xs p q m e = record { legal = m.legal; is = e ∙ m.is }
run (op ∷ ops) xs p q m w = run ops (rows_or xs (outcome_of op xs)) w.0.after q (changed op xs p w.0 m w.1) w.2

-- the empty record is made from no rows
pub made_empty : MadeFrom [] (record_of [])
made_empty = record { legal = record { common = 0; agreed = inl refl; rated = tt; total = omega arith }; is = refl }

pub runs_afresh : RunsAfresh
runs_afresh = record {
  made = λ ops q w. run ops [] (record_of []) q made_empty w;
  legal = outcome_legal;
  numbered = λ op xs r place e. number_of-least r;
}
