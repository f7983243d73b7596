-- `Record::push` takes a row that may stand behind the others. No record made from rows has more octets or ticks than it tests.
use Rattle.std.proofs.Common.{arith}
use Rattle.std.proofs.lemmas.Result.{err_from_is_err_and}
use Rattle.record.proofs.Changed.{push_many, push_refused, push_taken}
use Rattle.record.proofs.Record.push.Goals as goal

pub returns-then-self-ge-MOST_FRAMES : goal.returns-then-self-ge-MOST_FRAMES
returns-then-self-ge-MOST_FRAMES c = rw c.at.ensures (push_many _ _ _ (λ o t. grind arith))

pub returns-in_err-row : goal.returns-in_err-row
returns-in_err-row c = let e = err_from_is_err_and c.from_residual.result c.from_residual.ensures.1 in rw (e.1, e.2) (push_refused _ _ _ c.row_behind.ensures _ c.in_err-row.was)

pub returns : goal.returns
returns c = push_taken _ _ _ c.row_behind.ensures (omega arith) _ c.in_ok-row.was c.append.ensures
