-- Each part that the loop of `vectors::list_cases::list_parts` lists takes it on.
use Rattle.std.proofs.Common.{arith}
use Rattle.std.proofs.lemmas.List.{length-take, length-drop}
use Rattle.listing.proofs.Answering.{part_taken, part_some}
use Rattle.vectors.proofs.list_cases.list_parts.Goals as goal

pub overflow_add-from-in-loop-from-2 : goal.overflow_add-from-in-loop-from-2
overflow_add-from-in-loop-from-2 c = omega (arith, simp (length-take, length-drop) at (part_taken c.in-Ok.ensures))

pub loop-from-smaller : goal.loop-from-smaller
loop-from-smaller c = omega (arith, simp (length-take, length-drop) at (part_taken c.in-Ok.ensures), simp (length-take, length-drop) at (part_some c.in-Ok.ensures))

pub loop-from-preserved : goal.loop-from-preserved
loop-from-preserved c = omega (arith, simp (length-take, length-drop) at (part_taken c.in-Ok.ensures))
