-- `fields::neighbours` meets its contract: the pairs that were passed, from the last one on, are made.
use Rattle.std.proofs.Common.{◌∙◌, arith}
use Rattle.fields.proofs.Unpacking.{paired_start, paired_small, paired_step}
use Rattle.fields.proofs.neighbours.Goals as goal

pub loop-i-init : goal.loop-i-init
loop-i-init c = paired_start _ (omega arith)

pub overflow_add-pairs : goal.overflow_add-pairs
overflow_add-pairs c = record { fits = paired_small _ _ _ _ c.loop-i.invariant (c.from-octet.ensures ∙ c.reversed.ensures) }

pub loop-i-preserved : goal.loop-i-preserved
loop-i-preserved c = paired_step _ _ _ _ c.loop-i.invariant c.loop-i-test.true
    (c.from-octet.ensures ∙ c.reversed.ensures)
