-- `Record::start` answers the start that is kept for a row, or 12.
use Rattle.std.proofs.Common.{arith}
use Rattle.std.proofs.lemmas.Bool.Decides.{nat_tests}
use Rattle.record.proofs.Asking.{start_asked}
use Rattle.record.proofs.Record.start.Goals as goal

pub returns-then-self-i : goal.returns-then-self-i
returns-then-self-i c = start_asked _ _ (grind (arith, nat_tests))

pub returns : goal.returns
returns c = start_asked _ _ (grind (arith, nat_tests))
