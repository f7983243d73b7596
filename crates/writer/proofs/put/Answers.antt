-- `writer::put` writes the frames in turn: the loop keeps what PutLoop says.
use native.Mathlib.Omega.{arith}
use Rattle.std.proofs.Common.{rules}
use Rattle.writer.proofs.Pairs.{left_turn, left_none}
use Rattle.writer.proofs.FrameLoops.{FrameAt, put_start, put_named, frame_at, put_fits, put_on, put_end}
use Rattle.writer.proofs.put.Goals as goal

pub loop-pair-init : goal.loop-pair-init
loop-pair-init c = put_start _ _ _ _ _ c.requires.1 c.requires.2 c.as_chunks.ensures.front

pub unwrap-row-requires : goal.unwrap-row-requires
unwrap-row-requires c =
    let turn = left_turn _ _ c.as_chunks.ensures.front _ c.loop-pair-test.true in
    put_named _ _ _ _ _ _ _ _ c.loop-pair.invariant _ _ _ turn c.named_row.ensures

pub slice_bounds-body-end : goal.slice_bounds-body-end
slice_bounds-body-end c =
    let turn = left_turn _ _ c.as_chunks.ensures.front _ c.loop-pair-test.true in
    let a : FrameAt c.args.bodies.now c.loop-pair.from c.loop-pair.out c.loop-pair.to c.shape_of-shape.result = frame_at _ _ _ _ _ _ _ _ c.loop-pair.invariant _ _ _ turn c.named_row.ensures _ c.unwrap-row.ensures c.shape_of-shape.ensures in
    let b = a in search rules

pub overflow_add-to : goal.overflow_add-to
overflow_add-to c =
    let turn = left_turn _ _ c.as_chunks.ensures.front _ c.loop-pair-test.true in
    let a : FrameAt c.args.bodies.now c.loop-pair.from c.loop-pair.out c.loop-pair.to c.shape_of-shape.result = frame_at _ _ _ _ _ _ _ _ c.loop-pair.invariant _ _ _ turn c.named_row.ensures _ c.unwrap-row.ensures c.shape_of-shape.ensures in
    let b = a in omega arith

pub slice_bounds-put_frame-end : goal.slice_bounds-put_frame-end
slice_bounds-put_frame-end c =
    let turn = left_turn _ _ c.as_chunks.ensures.front _ c.loop-pair-test.true in
    let a : FrameAt c.args.bodies.now c.loop-pair.from c.loop-pair.out c.loop-pair.to c.shape_of-shape.result = frame_at _ _ _ _ _ _ _ _ c.loop-pair.invariant _ _ _ turn c.named_row.ensures _ c.unwrap-row.ensures c.shape_of-shape.ensures in
    let b = a in search rules

pub put_frame-requires : goal.put_frame-requires
put_frame-requires c =
    let turn = left_turn _ _ c.as_chunks.ensures.front _ c.loop-pair-test.true in
    put_fits _ _ _ _ _ _ _ _ c.loop-pair.invariant _ _ _ turn c.named_row.ensures _ c.unwrap-row.ensures c.shape_of-shape.ensures

pub loop-pair-preserved : goal.loop-pair-preserved
loop-pair-preserved c =
    let turn = left_turn _ _ c.as_chunks.ensures.front _ c.loop-pair-test.true in
    put_on _ _ _ _ _ _ _ _ c.loop-pair.invariant _ _ _ turn c.named_row.ensures _ c.unwrap-row.ensures c.shape_of-shape.ensures c.put_frame.ensures

pub returns : goal.returns
returns c = put_end _ _ _ _ _ _ _ _ c.loop-pair.invariant (left_none _ _ c.loop-pair-test.false)
