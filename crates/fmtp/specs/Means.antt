-- The language of setting texts said forwards, from settings to texts: docs/FORMAT.md, "Setting text".
-- No promise cites it; proofs/Theorems.antt shows that a text means settings by it exactly if `meaning` gives them.
use Rattle.std.specs.Prelude.{◌≡◌, true, List, [], ◌∷◌, ◌++◌, map, ℕ, decimal}
use Rattle.std.specs.Char.{to_ascii_lowercase}
use Rattle.fmtp.specs.declared.Settings.{Settings}
use Rattle.fmtp.specs.Settings.{are_rates, is_tcmax, settings_of}
use Rattle.fmtp.specs.Text.{bitrate_name, tcmax_name, equals, semicolon, rates_text, missing_rate, missing_tcmax}

-- an item's text: its name, spelled in any letter case, then `=` and its value
pub record Spelled (name value t : List ℕ) : Type 0 where
  pub spelling : List ℕ
  pub folds : map to_ascii_lowercase spelling ≡ name
  pub text : t ≡ spelling ++ (equals ∷ value)

-- "`bitrate=` takes one to three different rates"
pub record Bitrate (a b c : ℕ) (t : List ℕ) : Type 0 where
  pub rates : are_rates a b c ≡ true
  pub item : Spelled bitrate_name (rates_text a b c) t

-- "`tcmax=` takes 1 to 255 in decimal"
pub record Tcmax (n : ℕ) (t : List ℕ) : Type 0 where
  pub number : is_tcmax n ≡ true
  pub item : Spelled tcmax_name (decimal n) t

-- "Zero to two items, joined by `;`, .. each name at most once, in either order", and the settings that they mean.
-- "A missing bitrate means 2400 only, a missing tcmax 35".
pub data Means : List ℕ → Settings → Type 0 where
  neither : Means [] (settings_of missing_rate 0 0 missing_tcmax)
  bitrate : {a b c : ℕ} {t : List ℕ} → Bitrate a b c t → Means t (settings_of a b c missing_tcmax)
  tcmax : {n : ℕ} {t : List ℕ} → Tcmax n t → Means t (settings_of missing_rate 0 0 n)
  bitrate_tcmax : {a b c n : ℕ} {t u : List ℕ} → Bitrate a b c t → Tcmax n u → Means (t ++ (semicolon ∷ u)) (settings_of a b c n)
  tcmax_bitrate : {a b c n : ℕ} {t u : List ℕ} → Tcmax n t → Bitrate a b c u → Means (t ++ (semicolon ∷ u)) (settings_of a b c n)
