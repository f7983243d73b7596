-- `views::step_back` comes to the frame of the row.
use mathlib.Core.Path.{◌≡◌, sym}
use Prim.Native.Nat.{◌+◌, ◌-◌}
use native.Mathlib.Omega.{arith}
use lib.Seq.{length-take-le}
use Rattle.views.proofs.StepBackLoop.{unread_inside, unread_named, unread_passed}
use Rattle.views.proofs.step_back.Goals as goal

pub slice_bounds-last_shape-end : goal.slice_bounds-last_shape-end
slice_bounds-last_shape-end c = sym (length-take-le _ _ (unread_inside _ _ _ _ c.loop.invariant (omega arith)))

pub last_shape-unread-requires : goal.last_shape-unread-requires
last_shape-unread-requires c = unread_named _ _ _ _ c.loop.invariant (omega arith)

pub overflow_sub-unread : goal.overflow_sub-unread
overflow_sub-unread c = (unread_passed _ _ _ _ c.loop.invariant (omega arith) _ c.last_shape-unread.ensures).whole

pub loop-preserved : goal.loop-preserved
loop-preserved c =
    let one_less : c.args.frames + (c.args.row + 1) - (c.loop.counter + 1) ≡ c.args.frames + (c.args.row + 1) - c.loop.counter - 1 = omega arith in
    rw one_less (unread_passed _ _ _ _ c.loop.invariant (omega arith) _ c.last_shape-unread.ensures).before

pub slice_bounds-last_shape-end-2 : goal.slice_bounds-last_shape-end-2
slice_bounds-last_shape-end-2 c = sym (length-take-le _ _ (unread_inside _ _ _ _ c.loop.invariant (omega arith)))

pub last_shape-shape-requires : goal.last_shape-shape-requires
last_shape-shape-requires c = unread_named _ _ _ _ c.loop.invariant (omega arith)

pub overflow_sub-unread-2 : goal.overflow_sub-unread-2
overflow_sub-unread-2 c = (unread_passed _ _ _ _ c.loop.invariant (omega arith) _ c.last_shape-shape.ensures).whole

pub location_at-requires : goal.location_at-requires
location_at-requires c = (unread_passed _ _ _ _ c.loop.invariant (omega arith) _ c.last_shape-shape.ensures).base

pub returns : goal.returns
returns c =
    let its : c.args.frames + (c.args.row + 1) - c.loop.counter - 1 ≡ c.args.row = omega arith in
    rw (← its) ((unread_passed _ _ _ _ c.loop.invariant (omega arith) _ c.last_shape-shape.ensures).here _ c.location_at.ensures)
