-- `octets::many` has copied the blocks before its index.
use Rattle.std.proofs.Common.{◌≡◌, ◌*◌, take}
use Rattle.octets.proofs.many.Given as goal

abbrev pub invariant-loop-i : goal.invariant-loop-i
invariant-loop-i l = take (32 * l.i) l.dst ≡ take (32 * l.i) l.src
