-- `leb128::put_number` puts a number's octets where there is room for them, and else changes nothing.
use Rattle.std.proofs.Common.{arith}
use Rattle.leb128.proofs.Writing.{octets_some, writes_start, writes_next, writes_end, front_size, last_within, number_put, no_room}
use Rattle.leb128.proofs.put_number.Goals as goal
use Rattle.leb128.proofs.put_number.Goals.{then-out-at-via-then-out-at, then-out-at-via-else-out-at+then-out-at-2}

pub returns-then-out-at : goal.returns-then-out-at
returns-then-out-at c =
    no_room _ _ _ c.size_of-size.ensures
    (elim c.then-out-at.branch [
      | then-out-at-via-then-out-at w ↦ omega (arith, octets_some c.args.n)
      | then-out-at-via-else-out-at+then-out-at-2 w ↦ omega arith
    ])

pub overflow_sub-last : goal.overflow_sub-last
overflow_sub-last c = omega (arith, octets_some c.args.n)

pub slice_bounds-octet-items-count : goal.slice_bounds-octet-items-count
slice_bounds-octet-items-count c = omega (arith, octets_some c.args.n)

pub slice_bounds-octet-items-start : goal.slice_bounds-octet-items-start
slice_bounds-octet-items-start c = omega (arith, octets_some c.args.n)

-- from here on there is room

pub loop-octet-init : goal.loop-octet-init
loop-octet-init c =
    writes_start _ _ c.ranges.n.fits (front_size c.args.out.now _ _ c.size_of-size.ensures c.if-out-at.false c.if-out-at-2.false)

pub loop-octet-preserved : goal.loop-octet-preserved
loop-octet-preserved c = writes_next c.loop-octet.invariant c.loop-octet-test.true

pub overflow_cast-out : goal.overflow_cast-out
overflow_cast-out c = record { fits = omega (arith, (writes_end c.loop-octet.invariant c.loop-octet-test.false).0) }

pub bounds-out-last : goal.bounds-out-last
bounds-out-last c =
    last_within _ _ c.args.n c.size_of-size.ensures c.if-out-at.false c.if-out-at-2.false _ c.loop-octet.auto.octet-items

pub returns : goal.returns
returns c =
    number_put _ _ _ c.size_of-size.ensures c.if-out-at.false c.if-out-at-2.false c.loop-octet.invariant c.loop-octet-test.false
    c.loop-octet.auto.octet-items
