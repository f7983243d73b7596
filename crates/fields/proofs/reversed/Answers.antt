-- Both are the same sum of the octet's eight bits.
use Rattle.std.proofs.Common.{arith}
use Rattle.std.specs.Int.{reverse_bits_onto}
use Rattle.fields.specs.Bits.{digits, spelled}
use Rattle.fields.proofs.reversed.Goals as goal

pub returns : goal.returns
unfolding reverse_bits_onto digits spelled
returns c = omega arith
