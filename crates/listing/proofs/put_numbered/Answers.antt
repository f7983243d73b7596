-- `listing::put_numbered` stores a word and a number.
use Rattle.std.proofs.Common.{arith}
use Rattle.listing.proofs.Digits.{decimal_long}
use Rattle.listing.proofs.Stores.{stored_then}
use Rattle.listing.proofs.put_numbered.Goals as goal

pub returns : goal.returns
returns c = stored_then c.put_word-number.ensures c.put_decimal.ensures (omega (arith, decimal_long c.args.n))
