-- `writer::check_rows_framed` makes the checks of rows alone in their order: 11, 1, row by row, 1.
use mathlib.Core.Path.{ap, sym, ◌∙◌}
use Rattle.std.specs.Prelude.{Err}
use Rattle.writer.specs.Answers.{row_check_of}
use Rattle.writer.proofs.RowSequences.{check_odd, check_many, check_each}
use Rattle.writer.proofs.check_rows_framed.Goals as goal

pub returns-then-rows-eq1 : goal.returns-then-rows-eq1
returns-then-rows-eq1 c = ap Err c.at.ensures ∙ ap row_check_of (sym (check_odd _ _ c.if-rows-eq1.true))

pub returns-then-rows-gt-MOST_FRAMES : goal.returns-then-rows-gt-MOST_FRAMES
returns-then-rows-gt-MOST_FRAMES c = ap Err c.at-then-rows-gt-MOST_FRAMES.ensures ∙ ap row_check_of (sym (check_many _ _ c.if-rows-eq1.false c.if-rows-gt-MOST_FRAMES.true))

pub returns : goal.returns
returns c = c.row_by_row.ensures ∙ ap row_check_of (sym (check_each _ _ c.if-rows-eq1.false c.if-rows-gt-MOST_FRAMES.false))
