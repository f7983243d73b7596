-- `Record::pop` drops the last row, if there is one. No record made from rows has more than 200.
use Rattle.std.proofs.Common.{arith}
use Rattle.record.proofs.Changed.{too_many, pop_none, pop_taken}
use Rattle.record.specs.Operations.{to_pop}
use Rattle.record.proofs.Record.pop.Goals as goal

pub returns-then-self-eq0 : goal.returns-then-self-eq0
returns-then-self-eq0 c = rw c.at.ensures (pop_none _ c.if-self-eq0.true)

pub returns-then-self-gt-MOST_FRAMES : goal.returns-then-self-gt-MOST_FRAMES
returns-then-self-gt-MOST_FRAMES c = rw c.at-then-self-gt-MOST_FRAMES.ensures (too_many to_pop _ _ _ (λ r o t. omega arith))

pub returns : goal.returns
returns c = pop_taken _ (omega arith) c.drop_last.ensures
