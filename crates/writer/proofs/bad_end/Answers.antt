-- `writer::bad_end` looks at the ends of the bodies in turn: the loop keeps what EndLoop says.
use native.Mathlib.Omega.{arith}
use Rattle.writer.proofs.Pairs.{left_turn, left_none}
use Rattle.writer.proofs.FrameLoops.{BodyAt, ends_start, ends_named, body_at, ends_bad, ends_on, ends_none}
use Rattle.writer.proofs.bad_end.Goals as goal

pub loop-pair-init : goal.loop-pair-init
loop-pair-init c = ends_start _ _ _ _ c.requires.1 c.as_chunks.ensures.front

pub unwrap-row-requires : goal.unwrap-row-requires
unwrap-row-requires c =
    let turn = left_turn _ _ c.as_chunks.ensures.front _ c.loop-pair-test.true in
    ends_named _ _ _ _ _ c.loop-pair.invariant _ _ _ turn c.named_row.ensures

pub bounds-bodies-end : goal.bounds-bodies-end
bounds-bodies-end c =
    let turn = left_turn _ _ c.as_chunks.ensures.front _ c.loop-pair-test.true in
    let body : BodyAt c.args.bodies.now c.loop-pair.from c.shape_of-shape.result = body_at _ _ _ _ _ c.loop-pair.invariant _ _ _ turn c.named_row.ensures _ c.unwrap-row.ensures c.shape_of-shape.ensures in
    let b = body in omega arith

pub returns-then-shape-bodies : goal.returns-then-shape-bodies
returns-then-shape-bodies c =
    let turn = left_turn _ _ c.as_chunks.ensures.front _ c.loop-pair-test.true in
    ends_bad _ _ _ _ _ c.loop-pair.invariant _ _ _ turn c.named_row.ensures _ c.unwrap-row.ensures c.shape_of-shape.ensures c.if-shape-bodies.true

pub loop-pair-preserved : goal.loop-pair-preserved
loop-pair-preserved c =
    let turn = left_turn _ _ c.as_chunks.ensures.front _ c.loop-pair-test.true in
    ends_on _ _ _ _ _ c.loop-pair.invariant _ _ _ turn c.named_row.ensures _ c.unwrap-row.ensures c.shape_of-shape.ensures c.if-shape-bodies.false

pub returns : goal.returns
returns c = ends_none _ _ _ _ _ c.loop-pair.invariant (left_none _ _ c.loop-pair-test.false)
