-- `fmtp::Settings::put_text` puts the text of settings, part by part.
use Rattle.std.proofs.Common.{arith, rules, refl}
use Rattle.fmtp.proofs.SettingsLaws.{settings_parts, rates_cases, first_rate, second_rate, third_rate, tcmax_range}
use Rattle.fmtp.proofs.TextLaws.{rates-length, text_length}
use Rattle.fmtp.proofs.WriteLaws.{text_put, puts_all}
use Rattle.fmtp.proofs.Settings.put_text.Goals as goal

pub put-requires : goal.put-requires
put-requires c = omega (arith, text_length c.args.self)

pub put_rate-requires-clause-room : goal.put_rate-requires-clause-room
put_rate-requires-clause-room c = let s = c.args.self in omega (arith, text_length s, rates-length s.first s.second s.third)

pub put_rate-requires-clause-rate : goal.put_rate-requires-clause-rate
put_rate-requires-clause-rate c = first_rate (rates_cases _ _ _ (settings_parts _ c.requires.settings).0)

pub put_further-requires-clause-room : goal.put_further-requires-clause-room
put_further-requires-clause-room c = let s = c.args.self in omega (arith, text_length s, rates-length s.first s.second s.third)

pub put_further-requires-clause-rate : goal.put_further-requires-clause-rate
put_further-requires-clause-rate c = second_rate (rates_cases _ _ _ (settings_parts _ c.requires.settings).0)

pub put_further-requires-2-clause-room : goal.put_further-requires-2-clause-room
put_further-requires-2-clause-room c = let s = c.args.self in omega (arith, text_length s, rates-length s.first s.second s.third)

pub put_further-requires-2-clause-rate : goal.put_further-requires-2-clause-rate
put_further-requires-2-clause-rate c = third_rate (rates_cases _ _ _ (settings_parts _ c.requires.settings).0)

pub put-requires-2 : goal.put-requires-2
put-requires-2 c = let s = c.args.self in omega (arith, text_length s, rates-length s.first s.second s.third)

pub put_number-requires-clause-room : goal.put_number-requires-clause-room
put_number-requires-clause-room c = let s = c.args.self in omega (arith, text_length s, rates-length s.first s.second s.third)

pub put_number-requires-clause-small : goal.put_number-requires-clause-small
put_number-requires-clause-small c = omega (arith, (tcmax_range c.args.self.tcmax (settings_parts _ c.requires.settings).1).1)

pub returns : goal.returns
returns c =
    let e = puts_all refl (text_put c.args.self c.put.ensures c.put_rate.ensures c.put_further.ensures c.put_further-2.ensures c.put-2.ensures c.put_number.ensures) in
    search rules
