-- The octets that were passed are put.
use Rattle.fields.specs.Bits.{digits, octets_of}
use Rattle.fields.proofs.Filled.{Filled}
use Rattle.fields.proofs.put_octets.Given as goal

abbrev pub invariant-loop-i : goal.invariant-loop-i
invariant-loop-i l = Filled (octets_of 7 (digits 64 l.word)) l.initial.out l.out l.i
