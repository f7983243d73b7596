-- `fmtp::write_text::Cursor::put_rate` puts the digits of a rate.
use Rattle.std.proofs.Common.{arith}
use Rattle.fmtp.proofs.WriteLaws.{puts_as, spelled_2400, spelled_1200, spelled_600}
use Rattle.fmtp.proofs.write_text.Cursor.put_rate.Goals as goal

pub put-requires : goal.put-requires
put-requires c = let e = spelled_2400 c.args.rate c.in-2400.is in omega arith

pub returns-in-2400 : goal.returns-in-2400
returns-in-2400 c = puts_as (spelled_2400 c.args.rate c.in-2400.is).text c.put.ensures

pub put-requires-in-1200 : goal.put-requires-in-1200
put-requires-in-1200 c = let e = spelled_1200 c.args.rate c.in-1200.is in omega arith

pub returns-in-1200 : goal.returns-in-1200
returns-in-1200 c = puts_as (spelled_1200 c.args.rate c.in-1200.is).text c.put-in-1200.ensures

pub put-requires-in_default : goal.put-requires-in_default
put-requires-in_default c = let e = spelled_600 c.args.rate c.requires.rate (λ e. omega arith) (λ e. omega arith) in omega arith

pub returns-in_default : goal.returns-in_default
returns-in_default c = puts_as (spelled_600 c.args.rate c.requires.rate (λ e. omega arith) (λ e. omega arith)).text c.put-in_default.ensures
