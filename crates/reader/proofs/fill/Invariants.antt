-- `reader::fill` hands out rows and bodies from the last frame to the first: the loop keeps what FillLoop says.
use Rattle.reader.proofs.FillLoop.{FillLoop}
use Rattle.reader.proofs.fill.Given as goal

abbrev pub invariant-loop-index : goal.invariant-loop-index
invariant-loop-index l = FillLoop l.framing l.payload l.initial.rows l.initial.bodies l.unread l.index l.at l.rows l.bodies
