-- Each part that the loop of `listing_io::list_block` lists takes it on.
use Rattle.std.proofs.Common.{◌≤◌, length, ◌∙◌, arith}
use Rattle.std.proofs.lemmas.Bool.Decides.{nat_tests}
use Rattle.listing_io.proofs.Blocks.{upto, smaller, carries}
use Rattle.listing_io.proofs.list_block.Goals as goal

pub slice_bounds-rest-count : goal.slice_bounds-rest-count
slice_bounds-rest-count c = omega (arith, upto c.list.ensures _ c.in_ok-progress.ensures.cases)

pub slice_bounds-rest-start : goal.slice_bounds-rest-start
slice_bounds-rest-start c = omega (arith, upto c.list.ensures _ c.in_ok-progress.ensures.cases)

pub loop-rest-smaller : goal.loop-rest-smaller
loop-rest-smaller c =
    let h : 1 ≤ length c.loop-rest.rest.now = grind (arith, nat_tests) in
    smaller c.list.ensures _ c.in_ok-progress.ensures.cases (omega (arith, upto c.list.ensures _ c.in_ok-progress.ensures.cases)) h

pub loop-rest-preserved : goal.loop-rest-preserved
loop-rest-preserved c =
    c.loop-rest.invariant ∙ carries c.list.ensures _ c.in_ok-progress.ensures.cases (omega (arith, upto c.list.ensures _ c.in_ok-progress.ensures.cases))
