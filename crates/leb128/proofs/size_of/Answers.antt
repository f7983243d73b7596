-- `leb128::size_of` counts a number's groups.
use Rattle.leb128.proofs.Writing.{size_lem}
use Rattle.leb128.proofs.size_of.Goals as goal

pub returns : goal.returns
returns c = size_lem _ _ _ c.ranges.n.fits c.max.ensures c.ilog2.ensures.power_le c.ilog2.ensures.next_power_gt
