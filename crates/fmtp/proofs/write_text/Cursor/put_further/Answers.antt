-- `fmtp::write_text::Cursor::put_further` puts a comma and a rate, or nothing.
use Rattle.std.proofs.Common.{arith, ap, length, [], ◌∷◌, decimal}
use Rattle.fmtp.specs.Text.{comma}
use Rattle.fmtp.proofs.Decimals.{further_none, further_some}
use Rattle.fmtp.proofs.WriteLaws.{puts_as, puts_nothing, puts_both}
use Rattle.fmtp.proofs.write_text.Cursor.put_further.Goals as goal

pub put-requires : goal.put-requires
put-requires c = omega (arith, ap length (further_some c.args.rate c.if-rate-ne0.true))

pub put_rate-requires-clause-room : goal.put_rate-requires-clause-room
put_rate-requires-clause-room c = omega (arith, ap length (further_some c.args.rate c.if-rate-ne0.true))

pub returns-then-rate-ne0 : goal.returns-then-rate-ne0
returns-then-rate-ne0 c = puts_as (further_some _ c.if-rate-ne0.true) (puts_both (comma ∷ []) (decimal c.args.rate) c.put.ensures c.put_rate.ensures)

pub returns-else-rate-ne0 : goal.returns-else-rate-ne0
returns-else-rate-ne0 c = puts_as (further_none _ c.if-rate-ne0.false) (puts_nothing _)
