-- The last line of `vectors::list_cases::list` fits the room in which it is written.
use Rattle.std.proofs.Common.{arith, length-take}
use Rattle.listing.proofs.Answering.{close_fits}
use Rattle.vectors.proofs.list_cases.list.Goals as goal

pub slice_bounds-out-end : goal.slice_bounds-out-end
slice_bounds-out-end c = omega (arith, close_fits c.close.ensures c.in-Ok.is, c.close.auto.out)

pub slice_bounds-say_line-end : goal.slice_bounds-say_line-end
slice_bounds-say_line-end c = omega (arith, close_fits c.close.ensures c.in-Ok.is, c.close.auto.out, length-take c.in-Ok.n c.close.new.out)
