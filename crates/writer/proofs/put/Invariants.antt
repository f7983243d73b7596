-- `writer::put` writes the frames in turn: the loop keeps what PutLoop says.
use Rattle.writer.proofs.Pairs.{left}
use Rattle.writer.proofs.FrameLoops.{PutLoop}
use Rattle.writer.proofs.put.Given as goal

abbrev pub invariant-loop-pair : goal.invariant-loop-pair
invariant-loop-pair l = PutLoop l.framing l.rows l.bodies l.initial.out (left l.pairs l.pair-index) l.from l.to l.out
