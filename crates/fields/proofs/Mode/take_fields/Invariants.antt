-- The fields that were passed are filled.
use Rattle.fields.specs.Table.{consecutive}
use Rattle.fields.proofs.Unpacking.{FieldsTaken}
use Rattle.fields.proofs.Mode.take_fields.Given as goal

abbrev pub invariant-loop-i : goal.invariant-loop-i
invariant-loop-i l = FieldsTaken (consecutive 0 l.self.widths.now) l.body l.initial.fields l.fields l.at l.i
