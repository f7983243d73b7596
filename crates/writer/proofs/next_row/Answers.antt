-- `writer::next_row` checks the row of two numbers as the definition does: 12, and then what `admit` checks.
use mathlib.Core.Path.{ap, ◌∙◌}
use Rattle.std.proofs.lemmas.Result.{err_from_is_err_and}
use Rattle.writer.specs.Stages.{shape_checked}
use Rattle.writer.proofs.RowLaws.{unnamed-refused, named_checked}
use Rattle.writer.proofs.next_row.Goals as goal

pub returns-in_err-row : goal.returns-in_err-row
returns-in_err-row c earlier one =
    let p = err_from_is_err_and c.from_residual.result c.from_residual.ensures.1 in
    rw (p.1, p.2) (unnamed-refused _ _ c.named_row.ensures _ _ _ _ c.in_err-row.was)

pub returns : goal.returns
returns c earlier one = c.admit.ensures earlier one ∙ ap (shape_checked c.args.framing) (named_checked _ _ c.named_row.ensures _ _ _ _ c.in_ok-row.was)
