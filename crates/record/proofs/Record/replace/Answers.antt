-- `Record::replace` puts the numbers in place, has all rows checked, and makes the record afresh.
use Rattle.std.proofs.Common.{arith, refl}
use Rattle.std.proofs.lemmas.Result.{err_from_is_err_and}
use Rattle.record.specs.Operations.{to_replace}
use Rattle.record.proofs.Changed.{too_many, held, replace_none, replace_refused, replace_taken}
use Rattle.record.proofs.Record.replace.Goals as goal

pub returns-then-self-row : goal.returns-then-self-row
returns-then-self-row c = rw c.at.ensures (replace_none _ _ _ _ c.if-self-row.true)

pub returns-then-self-gt-MOST_FRAMES : goal.returns-then-self-gt-MOST_FRAMES
returns-then-self-gt-MOST_FRAMES c = rw c.at-then-self-gt-MOST_FRAMES.ensures (too_many (to_replace _ _ _) _ _ _ (λ r o t. omega arith))

pub returns-in_err-check_rows : goal.returns-in_err-check_rows
returns-in_err-check_rows c =
    let e = err_from_is_err_and c.from_residual.result c.from_residual.ensures.1 in
    rw (e.1, e.2) (replace_refused _ _ _ _ c.if-self-row.false refl c.check_rows.ensures _ c.in_err-check_rows.was)

pub afresh-requires : goal.afresh-requires
afresh-requires c = held c.check_rows.ensures _ c.in_ok-check_rows.was

pub returns : goal.returns
returns c = replace_taken _ _ _ _ c.if-self-row.false refl c.check_rows.ensures _ c.in_ok-check_rows.was c.afresh.ensures
