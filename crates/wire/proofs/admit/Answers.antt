-- `wire::admit` makes the step over a frame, or its refusal: the cases of StepCases, in the code's order.
use native.Mathlib.Omega.{arith}
use Rattle.wire.proofs.StepCases.{admit_cut, admit_foreign, admit_late, admit_mixed, admit_passes}
use Rattle.wire.proofs.admit.Goals as goal

pub returns-then-n-shape : goal.returns-then-n-shape
returns-then-n-shape c = admit_cut _ _ _ _ _ _ c.shape_of-shape.ensures c.if-n-shape.true

pub returns-then-entry-unread : goal.returns-then-entry-unread
returns-then-entry-unread c = admit_foreign _ _ _ _ _ _ c.shape_of-shape.ensures c.if-n-shape.false c.if-entry-unread.true

pub returns-then-frames-gt0 : goal.returns-then-frames-gt0
returns-then-frames-gt0 c = admit_late _ _ _ _ _ _ c.shape_of-shape.ensures c.if-n-shape.false c.if-entry-unread.false c.if-entry-eq0.true (λ e. omega arith)

pub returns-then-rate-ne0 : goal.returns-then-rate-ne0
returns-then-rate-ne0 c = admit_mixed _ _ _ _ _ _ c.shape_of-shape.ensures c.if-n-shape.false c.if-entry-unread.false c.if-entry-ne0.true c.if-rate-ne0.true c.if-entry-rate.true

pub returns : goal.returns
returns c =
    admit_passes _ _ _ _ _ _ c.shape_of-shape.ensures c.if-n-shape.false c.if-entry-unread.false
    (λ z. omega arith)
    (λ z q. omega arith)
