-- `journal::write_entry` checks the numbers, the payload and the room, in this order, and then writes.
use Rattle.std.proofs.Common.{length, arith}
use Rattle.leb128.proofs.Writing.{octets_few}
use Rattle.journal.proofs.Writing.{write_ticks, write_source, write_long, write_short, payload_start, write_all}
use Rattle.journal.proofs.write_entry.Goals as goal
use Rattle.journal.proofs.write_entry.Goals.{then-ticks-via-then-ticks, then-ticks-via-else-ticks+then-source}

pub overflow_add-numbers : goal.overflow_add-numbers
overflow_add-numbers c = omega (arith, octets_few c.args.ticks, octets_few c.args.source)

pub overflow_add-numbers-2 : goal.overflow_add-numbers-2
overflow_add-numbers-2 c =
    omega (arith, octets_few c.args.ticks, octets_few c.args.source, octets_few (length c.args.payload.now))

pub overflow_add-size : goal.overflow_add-size
overflow_add-size c =
    omega (arith, octets_few c.args.ticks, octets_few c.args.source, octets_few (length c.args.payload.now))

pub returns-then-ticks : goal.returns-then-ticks
returns-then-ticks c =
    elim c.then-ticks.branch [
      | then-ticks-via-then-ticks w ↦ write_ticks _ _ c.at.ensures w.if-ticks.true
      | then-ticks-via-else-ticks+then-source w ↦ write_source _ _ w.if-ticks.false c.at.ensures w.if-source.true
    ]

pub returns-then-payload-gt-MOST_OCTETS : goal.returns-then-payload-gt-MOST_OCTETS
returns-then-payload-gt-MOST_OCTETS c =
    write_long _ _ c.if-ticks.false c.if-source.false c.at-then-payload-gt-MOST_OCTETS.ensures c.if-payload-gt-MOST_OCTETS.true

pub returns-then-out-size : goal.returns-then-out-size
returns-then-out-size c =
    write_short _ _ c.if-ticks.false c.if-source.false c.if-payload-gt-MOST_OCTETS.false c.size_of.ensures c.size_of-2.ensures c.size_of-3.ensures
    c.at-then-out-size.ensures c.if-out-size.true

pub slice_bounds-copy-count : goal.slice_bounds-copy-count
slice_bounds-copy-count c =
    payload_start (record { ticks = c.args.ticks; source = c.args.source; payload = c.args.payload.now }) c.args.out.now c.if-ticks.false c.if-source.false
    c.if-payload-gt-MOST_OCTETS.false c.size_of.ensures c.size_of-2.ensures c.size_of-3.ensures c.if-out-size.false
    c.put_number-behind_ticks.ensures c.put_number-behind_source.ensures c.put_number-start.ensures

pub slice_bounds-copy-start : goal.slice_bounds-copy-start
slice_bounds-copy-start c = slice_bounds-copy-count c

pub returns : goal.returns
returns c =
    write_all (record { ticks = c.args.ticks; source = c.args.source; payload = c.args.payload.now }) c.args.out.now c.if-ticks.false c.if-source.false
    c.if-payload-gt-MOST_OCTETS.false c.size_of.ensures c.size_of-2.ensures c.size_of-3.ensures c.if-out-size.false
    c.put_number-behind_ticks.ensures c.put_number-behind_source.ensures c.put_number-start.ensures c.copy.ensures
