-- `Record::row` answers the two numbers of a row, or 12.
use Rattle.std.proofs.Common.{arith}
use Rattle.std.proofs.lemmas.Bool.Decides.{nat_tests}
use Rattle.record.proofs.Asking.{row_asked}
use Rattle.record.proofs.Record.row.Goals as goal

pub returns-then-self-i : goal.returns-then-self-i
returns-then-self-i c = row_asked _ _ (grind (arith, nat_tests))

pub returns : goal.returns
returns c = row_asked _ _ (grind (arith, nat_tests))
