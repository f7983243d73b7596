-- The pairs that were passed, from the last one on, are made.
use Rattle.fields.proofs.Unpacking.{Paired}
use Rattle.fields.proofs.neighbours.Given as goal

abbrev pub invariant-loop-i : goal.invariant-loop-i
invariant-loop-i l = Paired l.body l.pairs l.behind l.i
