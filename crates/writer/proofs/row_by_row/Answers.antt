-- `writer::row_by_row` checks rows in turn and adds their octets up: the loop keeps what RowLoop says.
use mathlib.Core.Path.{◌≡◌}
use native.Mathlib.Omega.{arith}
use Rattle.std.proofs.Common.{◌+◌, rules}
use Rattle.std.proofs.lemmas.Result.{err_from_is_err_and}
use Rattle.writer.specs.Answers.{no_totals}
use Rattle.writer.proofs.Pairs.{left, left_turn}
use Rattle.writer.proofs.RowLoop.{placed, Onward, loop_start, two_left, loop_refused, onward}
use Rattle.writer.proofs.row_by_row.Goals as goal

pub loop-pair-init : goal.loop-pair-init
loop-pair-init c =
    let none : c.default-totals.result ≡ no_totals = search rules in
    rw none (loop_start _ _ c.requires.even c.as_chunks.ensures.front _ c.agreed_rate-rate.ensures)

pub overflow_sub-later-in-loop-pair : goal.overflow_sub-later-in-loop-pair
overflow_sub-later-in-loop-pair c =
    let turn = left_turn _ _ c.as_chunks.ensures.front _ c.loop-pair-test.true in
    omega (arith, two_left _ _ _ _ _ c.loop-pair.invariant _ _ _ turn)

pub returns-in_err-shape : goal.returns-in_err-shape
returns-in_err-shape c =
    let turn = left_turn _ _ c.as_chunks.ensures.front _ c.loop-pair-test.true in
    let m : c.map_err.result ≡ placed c.next_row-checked.result c.loop-pair.totals.rows = search rules in
    let p = err_from_is_err_and c.from_residual.result c.from_residual.ensures.1 in
    rw (p.1, p.2) (loop_refused _ _ _ _ _ c.loop-pair.invariant _ _ _ turn c.next_row-checked.ensures m _ c.in_err-shape.was)

pub overflow_add-totals-in-loop-pair : goal.overflow_add-totals-in-loop-pair
overflow_add-totals-in-loop-pair c =
    let turn = left_turn _ _ c.as_chunks.ensures.front _ c.loop-pair-test.true in
    let m : c.map_err.result ≡ placed c.next_row-checked.result c.loop-pair.totals.rows = search rules in
    let z = c.loop-pair.invariant in
    let on : Onward c.args.framing c.args.rows.now (left c.as_chunks.result.0.now (c.loop-pair.pair-index + 1)) c.loop-pair.totals c.in_ok-shape.shape = onward _ _ _ _ _ z _ _ _ turn c.next_row-checked.ensures m _ c.in_ok-shape.was in
    omega (arith, on.small, on.within, z.less, z.most, z.numbers, c.requires.few)

pub overflow_add-totals-in-loop-pair-2 : goal.overflow_add-totals-in-loop-pair-2
overflow_add-totals-in-loop-pair-2 c =
    let turn = left_turn _ _ c.as_chunks.ensures.front _ c.loop-pair-test.true in
    let m : c.map_err.result ≡ placed c.next_row-checked.result c.loop-pair.totals.rows = search rules in
    let z = c.loop-pair.invariant in
    let on : Onward c.args.framing c.args.rows.now (left c.as_chunks.result.0.now (c.loop-pair.pair-index + 1)) c.loop-pair.totals c.in_ok-shape.shape = onward _ _ _ _ _ z _ _ _ turn c.next_row-checked.ensures m _ c.in_ok-shape.was in
    omega (arith, on.small, z.most, z.numbers, c.requires.few)

pub loop-pair-preserved : goal.loop-pair-preserved
loop-pair-preserved c =
    let turn = left_turn _ _ c.as_chunks.ensures.front _ c.loop-pair-test.true in
    let m : c.map_err.result ≡ placed c.next_row-checked.result c.loop-pair.totals.rows = search rules in
    (onward _ _ _ _ _ c.loop-pair.invariant _ _ _ turn c.next_row-checked.ensures m _ c.in_ok-shape.was).then
