-- `writer::write` refuses a rate that no session agrees on, 12 at 0, and else what the checks refuse; or it writes.
use mathlib.Core.Path.{refl, sym, ◌∙◌}
use Rattle.std.proofs.lemmas.Result.{err_from_is_err_and}
use Rattle.writer.proofs.WriteStages.{write_refused, length_wrong, end_bad, ends_good, room_short, long, written}
use Rattle.writer.proofs.Exactness.{refuses, writes}
use Rattle.writer.proofs.write.Goals as goal

pub returns-in_err-totals : goal.returns-in_err-totals
returns-in_err-totals c =
    let p = err_from_is_err_and c.from_residual-in_err-totals.result c.from_residual-in_err-totals.ensures.1 in
    rw (p.1, p.2) (refuses _ _ _ _ c.in_ok-framing.ensures.answer (λ i. (c.type_inv.bodies i).fits) _ refl (write_refused _ _ _ _ _ (sym c.check_rows_framed.ensures ∙ c.in_err-totals.was)) refl)

pub returns-then-bodies-totals : goal.returns-then-bodies-totals
returns-then-bodies-totals c =
    let wrong = length_wrong _ _ _ _ (sym c.check_rows_framed.ensures ∙ c.in_ok-totals.was) _ c.if-bodies-totals.true in
    refuses _ _ _ _ c.in_ok-framing.ensures.answer (λ i. (c.type_inv.bodies i).fits) _ refl wrong c.at.ensures

pub returns-in-Some : goal.returns-in-Some
returns-in-Some c =
    let bad = end_bad _ _ _ _ (sym c.check_rows_framed.ensures ∙ c.in_ok-totals.was) c.if-bodies-totals.false c.bad_end.ensures _ _ c.in-Some.is in
    refuses _ _ _ _ c.in_ok-framing.ensures.answer (λ i. (c.type_inv.bodies i).fits) _ refl bad c.at-in-Some.ensures

pub returns-then-out-totals : goal.returns-then-out-totals
returns-then-out-totals c =
    let g = ends_good _ _ _ _ (sym c.check_rows_framed.ensures ∙ c.in_ok-totals.was) c.if-bodies-totals.false c.bad_end.ensures c.in_default.not-Some in
    refuses _ _ _ _ c.in_ok-framing.ensures.answer (λ i. (c.type_inv.bodies i).fits) _ refl (room_short _ _ _ _ g.1 _ g.2 _ c.if-out-totals.true) c.at-then-out-totals.ensures

pub returns : goal.returns
returns c =
    let g = ends_good _ _ _ _ (sym c.check_rows_framed.ensures ∙ c.in_ok-totals.was) c.if-bodies-totals.false c.bad_end.ensures c.in_default.not-Some in
    writes _ _ _ _ c.in_ok-framing.ensures.answer (λ i. (c.type_inv.bodies i).fits) _ refl
    (written _ _ _ _ g.1 _ g.2 _ c.if-out-totals.false) (long _ _ _ _ g.1 _ g.2 0) (c.put.ensures _ g.1.rows.checked)
