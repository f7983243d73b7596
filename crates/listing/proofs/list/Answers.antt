-- `listing::list` lists a part of the input, as long as any line has room, or refuses buffers that are too short.
use Rattle.std.proofs.Common.{◌∙◌, rules}
use Rattle.listing.proofs.Answering.{list_buffer, list_room, list_part}
use Rattle.listing.proofs.Taking.{kept_step, kept_all, kept_full}
use Rattle.listing.proofs.list.Goals as goal

pub returns-then-payload-lt-MOST_OCTETS : goal.returns-then-payload-lt-MOST_OCTETS
returns-then-payload-lt-MOST_OCTETS c = rw c.at.ensures (list_buffer _ _ _ _ c.if-payload-lt-MOST_OCTETS.true)

pub returns-then-out-lt-LINE_ROOM : goal.returns-then-out-lt-LINE_ROOM
returns-then-out-lt-LINE_ROOM c = rw c.at-then-out-lt-LINE_ROOM.ensures (list_room _ _ _ _ c.if-payload-lt-MOST_OCTETS.false c.if-out-lt-LINE_ROOM.true)

pub loop-call-preserved : goal.loop-call-preserved
loop-call-preserved c =
    (kept_step c.loop-call.invariant.0 c.take_some.ensures c.take_some.auto.payload, c.take_some.ensures.buffers.out ∙ c.loop-call.invariant.1)

pub returns : goal.returns
returns c =
    let z = c.args in
    list_part z.state z.input.now z.payload.now z.out.now c.if-payload-lt-MOST_OCTETS.false c.if-out-lt-LINE_ROOM.false (search (rules, kept_full, kept_all))
