-- `journal::payload_at` shows the part of the journal that `entry_at` names.
use Rattle.std.proofs.Common.{ap, ◌∙◌}
use Rattle.std.specs.Prelude.{Ok}
use Rattle.journal.proofs.Reports.{payload_within}
use Rattle.journal.proofs.payload_at.Goals as goal

pub slice_bounds-result-count : goal.slice_bounds-result-count
slice_bounds-result-count c = (payload_within _ c.args.at c.entry_at.ensures.numbers _ (c.in-Ok-Some.is ∙ ap Ok c.in-Ok-Some.field-0-is)).0

pub slice_bounds-result-start : goal.slice_bounds-result-start
slice_bounds-result-start c = slice_bounds-result-count c

pub slice_bounds-result-end : goal.slice_bounds-result-end
slice_bounds-result-end c = (payload_within _ c.args.at c.entry_at.ensures.numbers _ (c.in-Ok-Some.is ∙ ap Ok c.in-Ok-Some.field-0-is)).1
