-- `leb128::number_at` reads a number octet by octet.
use Rattle.std.proofs.Common.{◌∙◌, ap, arith, Some}
use Rattle.leb128.proofs.Heads.{found_past, heads_start, heads_end, heads_more, heads_last, heads_bad}
use Rattle.leb128.proofs.number_at.Goals as goal

pub returns-then-octets-at : goal.returns-then-octets-at
returns-then-octets-at c = found_past _ _ _ _ (omega arith)

pub loop-groups-init : goal.loop-groups-init
loop-groups-init c = heads_start _ _ _ _

pub overflow_cast-groups : goal.overflow_cast-groups
overflow_cast-groups c = record { fits = omega (arith, c.loop-groups.invariant.few) }

pub returns-in-Some-Last : goal.returns-in-Some-Last
returns-in-Some-Last c =
    heads_last _ _ _ _ c.loop-groups.invariant c.loop-groups-test.true c.step.ensures.answer _ (c.in-Some-Last.is ∙ ap Some c.in-Some-Last.field-0-is)

pub returns-in-None : goal.returns-in-None
returns-in-None c = heads_bad _ _ _ _ c.loop-groups.invariant c.loop-groups-test.true c.step.ensures.answer c.in-None.is

pub loop-groups-preserved : goal.loop-groups-preserved
loop-groups-preserved c =
    heads_more _ _ _ _ c.loop-groups.invariant c.loop-groups-test.true c.step.ensures.answer _ (c.in-Some-More.is ∙ ap Some c.in-Some-More.field-0-is)

pub returns : goal.returns
returns c = heads_end _ _ _ _ c.loop-groups.invariant (omega arith)
