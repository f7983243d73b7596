-- The word has the bits of the fields that were passed.
use Rattle.std.proofs.Common.{length}
use Rattle.fields.specs.Table.{consecutive}
use Rattle.fields.proofs.Packing.{FieldsJoined}
use Rattle.fields.proofs.Mode.word_of.Given as goal

abbrev pub invariant-loop-field : goal.invariant-loop-field
invariant-loop-field l = FieldsJoined (consecutive 0 l.self.widths.now) l.fields l.word (length l.yielded)
