-- `Call::in_payload` goes on in a payload, or writes its line.
use Rattle.std.proofs.Common.{refl, ◌∙◌, arith}
use Rattle.listing.proofs.Lines.{following_saturates}
use Rattle.listing.proofs.Taking.{reach_whole}
use Rattle.listing.proofs.Call.in_payload.Goals as goal

pub returns : goal.returns
returns c =
    reach_whole c.args.self.now c.args.payload.now c.args.have c.requires.0 (c.saturating_add-lines.ensures ∙ following_saturates _ (omega arith))
    c.put_payload_line-self.ensures c.args.left c.if-left-gt0.false refl refl
