-- What a text means, computed from the text: docs/FORMAT.md, "Setting text".
use Rattle.std.specs.Prelude.{cond, List, [], ◌∷◌, map, ℕ, zero, suc, eqb, bytes_eq, decimal, Option, Some, None, option_map, option_and_then}
use Rattle.std.specs.Char.{to_ascii_lowercase}
use Rattle.fmtp.specs.declared.Settings.{Settings}
use Rattle.fmtp.specs.Settings.{rates, are_rates, settings_of}
use Rattle.fmtp.specs.Text.{bitrate_name, tcmax_name, equals, semicolon, comma, missing_rate, missing_tcmax}

-- ---- texts cut into parts

-- an octet put in front of the first part
abbrev pub ahead_of_first : ℕ → List (List ℕ) → List (List ℕ)
ahead_of_first x [] = (x ∷ []) ∷ []
ahead_of_first x (p ∷ ps) = (x ∷ p) ∷ ps

-- a text cut at every place where the sign stands
abbrev pub cut : ℕ → List ℕ → List (List ℕ)
cut sign [] = [] ∷ []
cut sign (x ∷ t) = cond (eqb sign x) ([] ∷ cut sign t) (ahead_of_first x (cut sign t))

-- what stands before the first place of the sign; all of a text that does not have it
abbrev pub before : ℕ → List ℕ → List ℕ
before sign [] = []
before sign (x ∷ t) = cond (eqb sign x) [] (x ∷ before sign t)

-- what stands behind the first place of the sign; nothing where a text does not have it
abbrev pub behind : ℕ → List ℕ → List ℕ
behind sign [] = []
behind sign (x ∷ t) = cond (eqb sign x) t (behind sign t)

-- ---- numbers

-- the number out of the choices that is written so
abbrev pub number_in : List ℕ → List ℕ → Option ℕ
number_in [] t = None
number_in (n ∷ ns) t = cond (bytes_eq (decimal n) t) (Some n) (number_in ns t)

-- the numbers from n down to 1
abbrev pub down_from : ℕ → List ℕ
down_from zero = []
down_from (suc n) = suc n ∷ down_from n

-- ---- items

-- what an item says: rates in order, unused places 0; or a tcmax
pub data Item : Type 0 where
  bitrate : (first second third : ℕ) → Item
  tcmax : ℕ → Item

-- a bitrate item of these rates, if they are different ones
unfoldable pub bitrate_item : ℕ → ℕ → ℕ → Option Item
bitrate_item a b c = cond (are_rates a b c) (Some (bitrate a b c)) None

-- "one to three different rates .., first preferred"
abbrev pub in_places : List ℕ → Option Item
in_places [] = None
in_places (a ∷ []) = bitrate_item a 0 0
in_places (a ∷ b ∷ []) = bitrate_item a b 0
in_places (a ∷ b ∷ c ∷ []) = bitrate_item a b c
in_places (a ∷ b ∷ c ∷ d ∷ more) = None

-- a meaning put in front of others, if all are there
abbrev pub prepend : {A : Type 0} → Option A → Option (List A) → Option (List A)
prepend None ys = None
prepend (Some y) None = None
prepend (Some y) (Some ys) = Some (y ∷ ys)

-- what each part means, if every part means something
abbrev pub each : {A : Type 0} → (List ℕ → Option A) → List (List ℕ) → Option (List A)
each f [] = Some []
each f (p ∷ ps) = prepend (f p) (each f ps)

-- "`bitrate=` takes one to three different rates out of 2400, 1200, 600, joined by commas"
unfoldable pub bitrate_of : List ℕ → Option Item
bitrate_of value = option_and_then in_places (each (number_in rates) (cut comma value))

-- "`tcmax=` takes 1 to 255 in decimal without leading zeros"
unfoldable pub tcmax_of : List ℕ → Option Item
tcmax_of value = option_map tcmax (number_in (down_from 255) value)

-- an item by its name and its value; any other name has no meaning
unfoldable pub item_named : List ℕ → List ℕ → Option Item
item_named name value = cond (bytes_eq name bitrate_name) (bitrate_of value) (cond (bytes_eq name tcmax_name) (tcmax_of value) None)

-- an item: a name in any letter case, `=`, and a value. Where no `=` stands the value is empty, and "an empty value is refused"
unfoldable pub item_of : List ℕ → Option Item
item_of t = item_named (map to_ascii_lowercase (before equals t)) (behind equals t)

-- ---- texts

-- the items of a text, "joined by `;`": the empty text has none
abbrev pub items : List ℕ → List (List ℕ)
items [] = []
items (x ∷ t) = cut semicolon (x ∷ t)

-- one item: "A missing bitrate means 2400 only, a missing tcmax 35"
abbrev pub one_item : Item → Settings
one_item (bitrate a b c) = settings_of a b c missing_tcmax
one_item (tcmax n) = settings_of missing_rate 0 0 n

-- two items: "each name at most once, in either order"
abbrev pub two_items : Item → Item → Option Settings
two_items (bitrate a b c) (bitrate d e f) = None
two_items (bitrate a b c) (tcmax n) = Some (settings_of a b c n)
two_items (tcmax n) (bitrate a b c) = Some (settings_of a b c n)
two_items (tcmax n) (tcmax m) = None

-- "Zero to two items"
abbrev pub combined : List Item → Option Settings
combined [] = Some (settings_of missing_rate 0 0 missing_tcmax)
combined (i ∷ []) = Some (one_item i)
combined (i ∷ j ∷ []) = two_items i j
combined (i ∷ j ∷ k ∷ more) = None

-- the settings that a text means, if it means any: those of all its items together
unfoldable pub meaning : List ℕ → Option Settings
meaning t = option_and_then combined (each item_of (items t))
