-- The text of settings: it means them, its length, and the longest text.
use Rattle.std.proofs.Common.{◌≡◌, ◌+◌, ◌≤◌, ℕ, List, ◌∷◌, ◌++◌, map, length, decimal, true, refl, ap, arith, length-append}
use Rattle.std.proofs.lemmas.Fmt.{length-decimal-le}
use Rattle.std.specs.Char.{to_ascii_lowercase}
use Rattle.std.specs.Fmt.{digits}
use Rattle.fmtp.specs.declared.Settings.{Settings}
use Rattle.fmtp.specs.Settings.{is_rate, are_rates, is_tcmax, IsSettings}
use Rattle.fmtp.specs.Text.{bitrate_name, tcmax_name, equals, further_text, rates_text, text_of, missing_rate, missing_tcmax}
use Rattle.fmtp.specs.Means.{Spelled, Means, neither, bitrate, tcmax, bitrate_tcmax, tcmax_bitrate}
use Rattle.fmtp.proofs.SettingsLaws.{Rate, bps2400, bps1200, bps600, rate_cases, rate_range, Rates, one, two, three, rates_cases, tcmax_range, settings_parts, settings_whole}
use Rattle.fmtp.proofs.Decimals.{further_none, further_some}

-- ---- what is meant are settings

missing_rates : are_rates missing_rate 0 0 ≡ true
unfolding are_rates is_rate
missing_rates = refl

missing_number : is_tcmax missing_tcmax ≡ true
unfolding is_tcmax
missing_number = refl

pub means_settings : {t : List ℕ} {s : Settings} → Means t s → IsSettings s
means_settings neither = settings_whole _ _ _ _ missing_rates missing_number
means_settings (bitrate i) = settings_whole _ _ _ _ i.rates missing_number
means_settings (tcmax i) = settings_whole _ _ _ _ missing_rates i.number
means_settings (bitrate_tcmax i j) = settings_whole _ _ _ _ i.rates j.number
means_settings (tcmax_bitrate i j) = settings_whole _ _ _ _ j.rates i.number

-- ---- the text of settings means them

plain : (name value : List ℕ) → map to_ascii_lowercase name ≡ name → Spelled name value (name ++ (equals ∷ value))
plain name value e = record { spelling = name; folds = e; text = refl }

pub written_means : (s : Settings) → IsSettings s → Means (text_of s) s
unfolding text_of
written_means s i =
    let p = settings_parts s i in
    bitrate_tcmax
    (record { rates = p.0; item = plain bitrate_name (rates_text s.first s.second s.third) refl })
    (record { number = p.1; item = plain tcmax_name (decimal s.tcmax) refl })

-- ---- its length

pub rates-length : (a b c : ℕ) → length (rates_text a b c) ≡ length (decimal a) + length (further_text b) + length (further_text c)
rates-length a b c = simp length-append (omega arith)

pub text_length : (s : Settings) → length (text_of s) ≡ 15 + length (rates_text s.first s.second s.third) + length (decimal s.tcmax)
unfolding text_of
text_length s = simp length-append (omega arith)

-- the length of a rate's text, and that only 600 has the short one
data Width : ℕ → ℕ → Type 0 where
  long2400 : Width 2400 4
  long1200 : Width 1200 4
  short600 : Width 600 3

width : (r : ℕ) → is_rate r ≡ true → Width r (length (decimal r))
unfolding digits
width r h = go (rate_cases r h)
  where
    go : {r : ℕ} → Rate r → Width r (length (decimal r))
    go bps2400 = long2400
    go bps1200 = long1200
    go bps600 = short600

width_most : {r k : ℕ} → Width r k → k ≤ 4
width_most long2400 = omega arith
width_most long1200 = omega arith
width_most short600 = omega arith

-- one of any three different rates is 600
three_most : {a b c i j k : ℕ} → (a ≡ b → ⊥) → (a ≡ c → ⊥) → (b ≡ c → ⊥) → Width a i → Width b j → Width c k → i + j + k ≤ 11
three_most ab ac bc short600 y z = omega (arith, width_most y, width_most z)
three_most ab ac bc long2400 long2400 z = absurd (ab refl)
three_most ab ac bc long1200 long1200 z = absurd (ab refl)
three_most ab ac bc long2400 short600 z = omega (arith, width_most z)
three_most ab ac bc long1200 short600 z = omega (arith, width_most z)
three_most ab ac bc long2400 long1200 long2400 = absurd (ac refl)
three_most ab ac bc long2400 long1200 long1200 = absurd (bc refl)
three_most ab ac bc long2400 long1200 short600 = omega arith
three_most ab ac bc long1200 long2400 long2400 = absurd (bc refl)
three_most ab ac bc long1200 long2400 long1200 = absurd (ac refl)
three_most ab ac bc long1200 long2400 short600 = omega arith

pub further_long : (r : ℕ) → is_rate r ≡ true → length (further_text r) ≡ 1 + length (decimal r)
further_long r h = omega (arith, ap length (further_some r (λ e. omega (arith, (rate_range r h).0))))

rates_most : {a b c : ℕ} → Rates a b c → length (decimal a) + length (further_text b) + length (further_text c) ≤ 13
rates_most (one {a = a} ra) = omega (arith, width_most (width a ra), ap length (further_none 0 refl))
rates_most (two {a = a} {b = b} ra rb ab) =
    omega (arith, width_most (width a ra), width_most (width b rb), further_long b rb, ap length (further_none 0 refl))
rates_most (three {a = a} {b = b} {c = c} ra rb rc ab ac bc) =
    omega (arith, further_long b rb, further_long c rc, three_most ab ac bc (width a ra) (width b rb) (width c rc))

pub text_most : (s : Settings) → IsSettings s → length (text_of s) ≤ 31
text_most s i =
    let p = settings_parts s i in
    omega (arith, text_length s, rates-length s.first s.second s.third, rates_most (rates_cases s.first s.second s.third p.0), length-decimal-le 3 s.tcmax (omega arith) (omega (arith, (tcmax_range s.tcmax p.1).1)) (omega (arith, (tcmax_range s.tcmax p.1).1)))
