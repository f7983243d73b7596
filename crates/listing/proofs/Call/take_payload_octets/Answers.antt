-- `Call::take_payload_octets` takes octets of a payload.
use Rattle.std.proofs.Common.{◌≡◌, ◌+◌, ◌-◌, ◌∙◌, ap, length, take, drop, length-drop, arith}
use Rattle.std.proofs.Math.Seq.{take_all, length-take-le}
use Rattle.octets.proofs.Put.{put_copy}
use Rattle.listing.proofs.Taking.{payload_advances}
use Rattle.listing.proofs.Call.take_payload_octets.Goals as goal

pub returns : goal.returns
returns c =
    let s = c.args.self.now in
    let n = c.min-count.result in
    let unread = drop s.taken s.input.now in
    let u : take (length s.input.now - s.taken) unread ≡ unread = take_all (length s.input.now - s.taken) unread (omega (arith, length-drop s.taken s.input.now)) in
    let l : length (take n unread) ≡ n = length-take-le n unread (omega (arith, c.min-count.ensures, ap length u)) in
    payload_advances c.requires.0 c.requires.1 c.requires.2 c.requires.3
    (c.min-count.ensures ∙ rw (u, length-drop))
    (put_copy _ c.args.payload.now c.args.have (c.args.have + n) (rw u (omega arith)) (omega (arith, c.requires.0.large, c.min-count.ensures)) c.copy.ensures ∙ rw u)
    c.in_payload.ensures
