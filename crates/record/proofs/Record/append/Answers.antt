-- `Record::append` adds the row's octets and ticks, which are few.
use Rattle.std.proofs.Common.{◌<◌, arith, rules}
use Rattle.wire.proofs.Rates.{ticks_most}
use Rattle.record.proofs.RowLists.{wire_most}
use Rattle.record.proofs.Record.append.Goals as goal

pub overflow_add-self-3 : goal.overflow_add-self-3
overflow_add-self-3 c = let tc : c.args.row.tc < 65536 = search rules in omega (arith, wire_most c.args.row c.shape_of-shape.ensures)

pub overflow_add-self-4 : goal.overflow_add-self-4
overflow_add-self-4 c = omega (arith, c.ticks_of_rate.ensures, ticks_most c.shape_of-shape.result.entry.rate)
