-- `writer::row_by_row` checks rows in turn and adds their octets up: the loop keeps what RowLoop says.
use Rattle.writer.proofs.Pairs.{left}
use Rattle.writer.proofs.RowLoop.{RowLoop}
use Rattle.writer.proofs.row_by_row.Given as goal

abbrev pub invariant-loop-pair : goal.invariant-loop-pair
invariant-loop-pair l = RowLoop l.framing l.rows (left l.pairs l.pair-index) l.totals l.rate
