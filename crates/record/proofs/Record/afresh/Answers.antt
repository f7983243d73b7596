-- `Record::afresh` takes row by row: the loop keeps what Turns says.
use Rattle.std.proofs.Common.{◌∙◌, arith}
use Rattle.record.proofs.Turns.{turn_start, turn_end, turn_within, turn_known, turn_taken}
use Rattle.record.proofs.Record.afresh.Goals as goal

pub loop-pair-init : goal.loop-pair-init
loop-pair-init c = rw c.into_iter-pair-iterator.ensures.into_iter_gives (c.chunks_exact-pair-items.ensures.size, turn_start _ c.chunks_exact-pair-items.ensures.rest c.empty-made.ensures)

pub unwrap-kind-requires : goal.unwrap-kind-requires
unwrap-kind-requires c =
    let s = c.in-Some.ensures.steps in
    let k = turn_known _ _ _ c.loop-pair.invariant.1 _ c.requires.1 _ _ s.1.0 (s.1.1 ∙ c.loop-pair.invariant.0) in
    grind arith

pub append-requires : goal.append-requires
append-requires c = let s = c.in-Some.ensures.steps in turn_within _ _ _ c.loop-pair.invariant.1 _ c.requires.1 _ _ s.1.0 (s.1.1 ∙ c.loop-pair.invariant.0)

pub loop-pair-preserved : goal.loop-pair-preserved
loop-pair-preserved c =
    let s = c.in-Some.ensures.steps in
    (s.0 ∙ c.loop-pair.invariant.0, λ xs h. turn_taken _ _ _ c.loop-pair.invariant.1 xs h _ _ s.1.0 (s.1.1 ∙ c.loop-pair.invariant.0) _ (grind arith) c.append.ensures)

pub returns : goal.returns
returns c = λ xs h. turn_end _ _ _ c.loop-pair.invariant.1 xs h (omega (arith, c.in-None.ensures.steps.1.0))
