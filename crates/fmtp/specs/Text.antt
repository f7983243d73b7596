-- The signs, names and numbers of the setting text, and the text of settings: docs/FORMAT.md, "Setting text".
use Rattle.std.specs.Prelude.{cond, List, [], ◌∷◌, ◌++◌, ℕ, eqb, codes, decimal}
use Rattle.fmtp.specs.declared.Settings.{Settings}

abbrev pub bitrate_name : List ℕ
bitrate_name = codes "bitrate"

abbrev pub tcmax_name : List ℕ
tcmax_name = codes "tcmax"

-- the `=` behind a name
abbrev pub equals : ℕ
equals = 61

-- the `;` between two items
abbrev pub semicolon : ℕ
semicolon = 59

-- the `,` between two rates
abbrev pub comma : ℕ
comma = 44

-- "joined by commas": a further rate stands behind a comma; an unused place gives nothing
unfoldable pub further_text : ℕ → List ℕ
further_text r = cond (eqb r 0) [] (comma ∷ decimal r)

-- the value of a bitrate item, its rates in order
abbrev pub rates_text : ℕ → ℕ → ℕ → List ℕ
rates_text a b c = decimal a ++ (further_text b ++ further_text c)

-- "The writer puts bitrate, then tcmax, lower case, both always"
unfoldable pub text_of : Settings → List ℕ
text_of s =
    (bitrate_name ++ (equals ∷ rates_text s.first s.second s.third))
    ++ (semicolon ∷ (tcmax_name ++ (equals ∷ decimal s.tcmax)))

-- "A missing bitrate means 2400 only"
abbrev pub missing_rate : ℕ
missing_rate = 2400

-- "a missing tcmax 35"
abbrev pub missing_tcmax : ℕ
missing_tcmax = 35
