-- `reader::fill` hands out rows and bodies from the last frame to the first: the loop keeps what FillLoop says.
use mathlib.Core.Path.{sym}
use lib.Seq.{length-take-le}
use borrow.Author.Rules.{rules}
use Rattle.reader.proofs.FillLoop.{Turn, fill_inside, fill_named, fill_turn, fill_end}
use Rattle.reader.proofs.fill.Goals as goal
use Rattle.reader.proofs.fill.Goals.{After-shape_of-shape}

turn : (c : After-shape_of-shape)
    → Turn c.args.framing c.args.payload.now c.args.rows.now c.args.bodies.now c.loop-index.unread c.loop-index.index c.loop-index.at c.loop-index.rows c.loop-index.bodies c.unwrap-row.result c.shape_of-shape.result
turn c = fill_turn _ _ _ _ _ _ _ _ _ c.loop-index.invariant c.loop-index.auto.bodies c.loop-index-test.true _ _ c.unwrap-row.ensures c.identify.ensures.answer c.shape_of-shape.ensures

pub slice_bounds-identify-end : goal.slice_bounds-identify-end
slice_bounds-identify-end c = sym (length-take-le _ _ (fill_inside _ _ _ _ _ _ _ _ _ c.loop-index.invariant c.loop-index.auto.bodies c.loop-index-test.true))

pub unwrap-row-requires : goal.unwrap-row-requires
unwrap-row-requires c = fill_named _ _ _ _ _ _ _ _ _ c.loop-index.invariant c.loop-index.auto.bodies c.loop-index-test.true c.identify.ensures.answer

pub overflow_sub-unread : goal.overflow_sub-unread
overflow_sub-unread c = (turn (goal.at.overflow_sub-unread c).After-shape_of-shape).wire

pub overflow_sub-at : goal.overflow_sub-at
overflow_sub-at c = (turn (goal.at.overflow_sub-at c).After-shape_of-shape).body

pub slice_bounds-put_body-end : goal.slice_bounds-put_body-end
slice_bounds-put_body-end c =
    let inside = (turn (goal.at.slice_bounds-put_body-end c).After-shape_of-shape).inside in
    search rules

pub slice_bounds-put_body-end-in-loop-index : goal.slice_bounds-put_body-end-in-loop-index
slice_bounds-put_body-end-in-loop-index c =
    let room = (turn (goal.at.slice_bounds-put_body-end-in-loop-index c).After-shape_of-shape).room in
    search rules

pub put_body-requires : goal.put_body-requires
put_body-requires c = (turn (goal.at.put_body-requires c).After-shape_of-shape).fits

pub loop-index-preserved : goal.loop-index-preserved
loop-index-preserved c = (turn (goal.at.loop-index-preserved c).After-shape_of-shape).then c.put_row.ensures c.put_body.ensures

pub returns-clause-rows : goal.returns-clause-rows
returns-clause-rows c = (fill_end _ _ _ _ _ _ _ _ _ c.loop-index.invariant c.loop-index.auto.bodies c.loop-index-test.false).0

pub returns-clause-bodies : goal.returns-clause-bodies
returns-clause-bodies c = (fill_end _ _ _ _ _ _ _ _ _ c.loop-index.invariant c.loop-index.auto.bodies c.loop-index-test.false).1
