-- `Record::afresh` takes row by row: the loop keeps what Turns says.
use Rattle.std.proofs.Common.{◌≡◌}
use Rattle.record.proofs.Turns.{Turn}
use Rattle.record.proofs.Record.afresh.Given as goal

abbrev pub invariant-loop-pair : goal.invariant-loop-pair
invariant-loop-pair l = (l.pair-iterator.size ≡ 2) × Turn l.numbers l.pair-iterator.rest.now l.made
