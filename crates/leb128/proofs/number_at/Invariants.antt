-- `leb128::number_at` reads a number octet by octet.
use Rattle.leb128.proofs.Heads.{Heads}
use Rattle.leb128.proofs.number_at.Given as goal

abbrev pub invariant-loop-groups : goal.invariant-loop-groups
invariant-loop-groups l = Heads l.limits.groups l.limits.bound l.octets l.at l.value l.groups
