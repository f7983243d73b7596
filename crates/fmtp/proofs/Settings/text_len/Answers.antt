-- `fmtp::Settings::text_len` counts the octets of the settings' text.
use Rattle.std.proofs.Common.{arith}
use Rattle.fmtp.proofs.SettingsLaws.{settings_parts, rates_cases, first_rate}
use Rattle.fmtp.proofs.TextLaws.{rates-length, text_length, further_long}
use Rattle.fmtp.proofs.Settings.text_len.Goals as goal

pub returns : goal.returns
returns c =
    let s = c.args.self in
    let first = first_rate (rates_cases _ _ _ (settings_parts s c.requires).0) in
    omega (arith, text_length s, rates-length s.first s.second s.third, further_long s.first first)
