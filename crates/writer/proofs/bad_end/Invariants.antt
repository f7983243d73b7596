-- `writer::bad_end` looks at the ends of the bodies in turn: the loop keeps what EndLoop says.
use Rattle.writer.proofs.Pairs.{left}
use Rattle.writer.proofs.FrameLoops.{EndLoop}
use Rattle.writer.proofs.bad_end.Given as goal

abbrev pub invariant-loop-pair : goal.invariant-loop-pair
invariant-loop-pair l = EndLoop l.framing l.rows l.bodies (left l.pairs l.pair-index) l.from
