-- `views::step_back` comes to the frame of the row: the loop leaves one frame less unread each time.
use Rattle.std.proofs.Common.{◌+◌, ◌-◌}
use Rattle.views.proofs.StepBackLoop.{Unread}
use Rattle.views.proofs.step_back.Given as goal

abbrev pub invariant-loop : goal.invariant-loop
invariant-loop l = Unread l.framing l.payload (l.frames + (l.row + 1) - l.counter) l.unread
