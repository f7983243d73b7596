-- `writer::put_frame` copies a body, sets the rate code in its base's last octet, and writes the count behind it.
use mathlib.Core.Path.{◌≡◌, ◌∙◌}
use native.Mathlib.Omega.{arith}
use lib.ListN.{length}
use Rattle.octets.proofs.Parts.{over-whole}
use Rattle.writer.proofs.put_frame.Goals as goal

pub returns : goal.returns
returns c =
    let copied : c.copy.new.dst ≡ c.args.body.now = c.copy.ensures ∙ over-whole _ _ (omega arith) in
    let z : length c.split_at_mut-start.result.1.now ≡ c.args.shape.count = omega arith in
    cc
