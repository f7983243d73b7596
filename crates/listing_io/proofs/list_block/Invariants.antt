-- What the loop of `listing_io::list_block` keeps: what is left of the block leads to where the whole block leads.
use Rattle.std.proofs.Common.{◌≡◌, length}
use Rattle.listing_io.proofs.Blocks.{carried_from}
use Rattle.listing_io.proofs.list_block.Given as goal

abbrev pub invariant-loop-rest : goal.invariant-loop-rest
invariant-loop-rest l = carried_from l.initial.state l.initial.payload l.input ≡ carried_from l.state l.payload l.rest

abbrev pub decreases-loop-rest : goal.decreases-loop-rest
decreases-loop-rest l = length l.rest
