-- `writer::named_row` reads the two numbers of a row, and looks its kind up.
use Rattle.std.proofs.lemmas.Result.{err_from_is_err_and}
use Rattle.writer.proofs.RowLaws.{named-unknown, named-known}
use Rattle.writer.proofs.named_row.Goals as goal

pub returns-in_err-kind : goal.returns-in_err-kind
returns-in_err-kind c =
    let p = err_from_is_err_and c.from_residual.result c.from_residual.ensures.1 in
    rw (p.1, p.2) (named-unknown _ _ c.try_from.ensures.answer _ c.in_err-kind.was)

pub returns : goal.returns
returns c = named-known _ _ c.try_from.ensures.answer _ c.in_ok-kind.was
