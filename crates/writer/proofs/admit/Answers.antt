-- `writer::admit` checks a row of a known kind as the definition does, the earlier rows known by their rate.
use Rattle.writer.proofs.RowLaws.{refuses_tc, refuses_noise, admits_noise, refuses_rate, admits_coder}
use Rattle.writer.proofs.admit.Goals as goal

pub returns-then-shape-entry : goal.returns-then-shape-entry
returns-then-shape-entry c = refuses_tc _ _ _ _ c.shape_of-shape.ensures c.then-shape-entry.either

pub returns-then-later-gt0 : goal.returns-then-later-gt0
returns-then-later-gt0 c = refuses_noise _ _ _ _ c.shape_of-shape.ensures c.if-shape-entry.false c.if-entry-shape.false c.if-entry-eq0.true c.if-later-gt0.true

pub returns-else-later-gt0 : goal.returns-else-later-gt0
returns-else-later-gt0 c = admits_noise _ _ _ _ c.shape_of-shape.ensures c.if-shape-entry.false c.if-entry-shape.false c.if-entry-eq0.true c.if-later-gt0.false

pub returns-then-entry-rate : goal.returns-then-entry-rate
returns-then-entry-rate c = refuses_rate _ _ _ _ c.shape_of-shape.ensures c.if-shape-entry.false c.if-entry-shape.false c.if-entry-eq0.false c.if-rate-ne0.true c.if-entry-rate.true

pub returns-else-rate-ne0 : goal.returns-else-rate-ne0
returns-else-rate-ne0 c = admits_coder _ _ _ _ c.shape_of-shape.ensures c.if-shape-entry.false c.if-entry-shape.false c.if-entry-eq0.false c.else-rate-ne0.either
