-- `listing::close` writes the last line, or refuses a buffer that it does not fit.
use Rattle.std.proofs.Common.{◌≡◌, cond, rules, arith}
use Rattle.listing.specs.Line.{end_word, cut_word}
use Rattle.listing.specs.Listing.{is_whole}
use Rattle.listing.proofs.Lines.{closing_word}
use Rattle.listing.proofs.Stores.{stored_same}
use Rattle.listing.proofs.Answering.{close_short, close_line}
use Rattle.listing.proofs.close.Goals as goal

pub returns-then-out-n : goal.returns-then-out-n
returns-then-out-n c =
    let w : c.if-is_whole.word.now ≡ cond (is_whole c.args.state.phase) end_word cut_word = search rules in
    rw c.at.ensures (close_short c.args.state c.args.out.now (omega arith) (stored_same (closing_word c.args.state w) c.put_last_line-n.ensures) c.if-out-n.true)

pub returns : goal.returns
returns c =
    let w : c.if-is_whole.word.now ≡ cond (is_whole c.args.state.phase) end_word cut_word = search rules in
    rw c.copy_from_slice.ensures.after
    (close_line c.args.state c.args.out.now (omega arith) (stored_same (closing_word c.args.state w) c.put_last_line-n.ensures) c.if-out-n.false)
