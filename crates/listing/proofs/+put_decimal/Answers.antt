-- `listing::put_decimal` stores the digits of a number: those of its tenth, then its last.
use Rattle.std.proofs.Common.{arith}
use Rattle.listing.proofs.Digits.{decimal_one, decimal_more, decimal_front}
use Rattle.listing.proofs.Stores.{stored_same, stored_then}
use Rattle.listing.proofs.+put_decimal.Goals as goal

pub returns-then-n-lt10 : goal.returns-then-n-lt10
returns-then-n-lt10 t c = stored_same (decimal_one _ (omega arith)) c.put_digit.ensures

pub put_digit-requires-2 : goal.put_digit-requires-2
put_digit-requires-2 t c = (omega (arith, decimal_front c.args.n (omega arith) (omega arith)), omega arith)

pub returns : goal.returns
returns t c =
    let f = decimal_front c.args.n (omega arith) (omega arith) in
    stored_same (decimal_more c.args.n (omega arith) (omega arith)) (stored_then c.put_decimal-end.ensures c.put_digit-2.ensures (omega (arith, f)))
