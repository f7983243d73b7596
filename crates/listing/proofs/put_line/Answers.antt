-- `listing::put_line` stores a payload line.
use Rattle.std.proofs.Common.{[], ◌∷◌, arith}
use Rattle.listing.proofs.Digits.{decimal_long}
use Rattle.listing.proofs.Stores.{stored_then}
use Rattle.listing.proofs.Lines.{numbered_long}
use Rattle.listing.proofs.put_line.Goals as goal

pub put_numbered-second-requires : goal.put_numbered-second-requires
put_numbered-second-requires c = omega (arith, decimal_long c.args.n)

pub put_numbered-end-requires : goal.put_numbered-end-requires
put_numbered-end-requires c = omega (arith, decimal_long c.args.n, numbered_long c.args.word.now c.args.a)

pub put_word-requires : goal.put_word-requires
put_word-requires c = omega (arith, decimal_long c.args.n, numbered_long c.args.word.now c.args.a, numbered_long (32 ∷ []) c.args.b)

pub returns : goal.returns
returns c =
    let n = decimal_long c.args.n in
    let a = numbered_long c.args.word.now c.args.a in
    let b = numbered_long (32 ∷ []) c.args.b in
    stored_then (stored_then (stored_then c.put_decimal-first.ensures c.put_numbered-second.ensures (omega (arith, n, a))) c.put_numbered-end.ensures (omega (arith, n, a, b)))
    c.put_word.ensures (omega (arith, n, a, b))
