-- `listing::put_last_line` stores a last line.
use Rattle.std.proofs.Common.{arith}
use Rattle.listing.proofs.Lines.{numbered_long}
use Rattle.listing.proofs.put_last_line.Goals as goal

pub put_word-requires : goal.put_word-requires
put_word-requires c = omega (arith, numbered_long c.args.word.now c.args.n)
