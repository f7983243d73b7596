-- The last line fits the room in which `listing_io::write_last` writes it.
use Rattle.std.proofs.Common.{length-take, arith}
use Rattle.listing.proofs.Answering.{close_fits}
use Rattle.listing_io.proofs.Blocks.{answered}
use Rattle.listing_io.proofs.write_last.Goals as goal

pub slice_bounds-write_all-end : goal.slice_bounds-write_all-end
slice_bounds-write_all-end c =
    omega (arith, close_fits c.close.ensures (answered c.close.result _ c.in_ok-n.ensures.cases), c.close.auto.out)

pub slice_bounds-write_all-end-2 : goal.slice_bounds-write_all-end-2
slice_bounds-write_all-end-2 c =
    omega (
      arith,
      close_fits c.close.ensures (answered c.close.result _ c.in_ok-n.ensures.cases),
      c.close.auto.out,
      length-take c.in_ok-n.n c.close.new.out,
    )
