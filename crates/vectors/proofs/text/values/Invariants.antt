-- `vectors::text::values` goes through the text.
use Rattle.std.proofs.Common.{length}
use Rattle.vectors.proofs.text.values.Given as goal

abbrev pub decreases-loop-filled : goal.decreases-loop-filled
decreases-loop-filled g l = length l.rest
