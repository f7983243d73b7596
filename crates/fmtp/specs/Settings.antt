-- Settings: docs/FORMAT.md, "Setting text".
use Rattle.std.specs.Prelude.{◌≡◌, Bool, true, not, ◌&&◌, ◌||◌, List, [], ◌∷◌, ℕ, eqb, leb}
use Rattle.std.specs.List.{list_any}
use Rattle.fmtp.specs.declared.Settings.{Settings}

-- a number stands in a list
abbrev pub is_in : ℕ → List ℕ → Bool
is_in x ys = list_any (eqb x) ys

-- "rates out of 2400, 1200, 600"
abbrev pub rates : List ℕ
rates = 2400 ∷ 1200 ∷ 600 ∷ []

-- a number is one of the rates
unfoldable pub is_rate : ℕ → Bool
is_rate r = is_in r rates

-- "one to three different rates in order, unused places 0"
unfoldable pub are_rates : ℕ → ℕ → ℕ → Bool
are_rates a b c =
    (is_rate a && eqb b 0 && eqb c 0)
    || (is_rate a && is_rate b && not (eqb a b) && eqb c 0)
    || (is_rate a && is_rate b && is_rate c && not (eqb a b) && not (eqb a c) && not (eqb b c))

-- "`tcmax=` takes 1 to 255"
unfoldable pub is_tcmax : ℕ → Bool
is_tcmax n = leb 1 n && leb n 255

-- "Settings are one to three different rates in order, unused places 0, and a tcmax"
unfoldable pub is_settings : Settings → Bool
is_settings s = are_rates s.first s.second s.third && is_tcmax s.tcmax

-- the same as a fact, which theorems ask for
abbrev pub IsSettings : Settings → Type 0
IsSettings s = is_settings s ≡ true

-- settings of the four numbers
abbrev pub settings_of : ℕ → ℕ → ℕ → ℕ → Settings
settings_of a b c n = record { first = a; second = b; third = c; tcmax = n }
