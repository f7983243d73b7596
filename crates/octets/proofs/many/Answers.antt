-- `octets::many` copies block by block, and then the last block.
use Rattle.std.proofs.Common.{◌*◌, ◌-◌, length, arith}
use Rattle.std.proofs.lemmas.Grind.{div_ceil_times}
use Rattle.octets.proofs.Blocks.{block_put, last_put}
use Rattle.octets.proofs.many.Goals as goal

pub loop-i-preserved : goal.loop-i-preserved
loop-i-preserved c = block_put _ _ _ _ _ _ (omega arith) (omega arith) (omega arith) c.loop-i.invariant c.ends.ensures

pub returns : goal.returns
returns c = let n = length c.args.src.now in
    last_put c.args.src.now c.loop-i.dst _ (n - 32) _ _ (32 * c.loop-i.i) (omega arith) (omega arith) (omega arith)
    (omega (arith, div_ceil_times (n - 32) 32 (omega arith)))
    c.loop-i.invariant c.ends-2.ensures
