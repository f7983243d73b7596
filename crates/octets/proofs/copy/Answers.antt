-- `octets::copy` copies as many octets as both slices have.
use Rattle.octets.proofs.Copied.{whole}
use Rattle.octets.proofs.copy.Goals as goal

pub returns : goal.returns
returns c = whole _ _ _ c.min-n.ensures c.whole.ensures
