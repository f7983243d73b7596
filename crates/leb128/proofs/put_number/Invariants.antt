-- `leb128::put_number` puts a number's groups but the last, and then the last.
use Rattle.leb128.proofs.Writing.{Writes}
use Rattle.leb128.proofs.put_number.Given as goal

abbrev pub invariant-loop-octet : goal.invariant-loop-octet
invariant-loop-octet l = Writes l.n l.initial.octet-items l.rest l.octet-items l.octet-index
