-- `journal::entry_at` judges the end, then the three numbers, and then the body.
use Rattle.std.proofs.lemmas.Result.{err_from_is_err_and}
use Rattle.journal.proofs.Reports.{stands_end, reading_starts, behind_first, behind_second, behind_third, stands_refused, number_within, stands_long, stands_cut, stands_entry}
use Rattle.journal.proofs.entry_at.Goals as goal

pub returns-then-journal-at : goal.returns-then-journal-at
returns-then-journal-at c = stands_end _ _ c.if-journal-at.true

-- a number that is none

pub returns-in_err-ticks : goal.returns-in_err-ticks
returns-in_err-ticks c =
    let p = err_from_is_err_and c.from_residual.result c.from_residual.ensures.1 in
    rw (p.1, p.2) (stands_refused _ _ _ _ (reading_starts _ _ c.if-journal-at.false) c.number.ensures _ c.in_err-ticks.was)

pub returns-in_err-source : goal.returns-in_err-source
returns-in_err-source c =
    let p = err_from_is_err_and c.from_residual-in_err-source.result c.from_residual-in_err-source.ensures.1 in
    let first = behind_first _ _ c.if-journal-at.false c.number.ensures _ c.in_ok-ticks.was in
    rw (p.1, p.2) (stands_refused _ _ _ _ first c.number-2.ensures _ c.in_err-source.was)

pub returns-in_err-length : goal.returns-in_err-length
returns-in_err-length c =
    let p = err_from_is_err_and c.from_residual-in_err-length.result c.from_residual-in_err-length.ensures.1 in
    let second = behind_second _ _ c.if-journal-at.false c.number.ensures _ c.in_ok-ticks.was c.number-2.ensures _ c.in_ok-source.was in
    rw (p.1, p.2) (stands_refused _ _ _ _ second c.number-3.ensures _ c.in_err-length.was)

-- the body

pub returns-then-length : goal.returns-then-length
returns-then-length c =
    let third = behind_third _ _ c.if-journal-at.false c.number.ensures _ c.in_ok-ticks.was c.number-2.ensures _ c.in_ok-source.was c.number-3.ensures _ c.in_ok-length.was in
    stands_long _ _ _ _ _ _ third c.at.ensures c.if-length.true

pub returns-then-journal-length : goal.returns-then-journal-length
returns-then-journal-length c =
    let third = behind_third _ _ c.if-journal-at.false c.number.ensures _ c.in_ok-ticks.was c.number-2.ensures _ c.in_ok-source.was c.number-3.ensures _ c.in_ok-length.was in
    stands_cut _ _ _ _ _ _ third c.if-length.false c.at-then-journal-length.ensures c.if-journal-length.true

pub returns : goal.returns
returns c =
    let third = behind_third _ _ c.if-journal-at.false c.number.ensures _ c.in_ok-ticks.was c.number-2.ensures _ c.in_ok-source.was c.number-3.ensures _ c.in_ok-length.was in
    stands_entry _ _ _ _ _ _ third c.if-length.false (number_within _ _ _ c.number-3.ensures _ c.in_ok-length.was) c.if-journal-length.false
