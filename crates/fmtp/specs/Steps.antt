-- Steps of the reader and the writer. Only private functions' contracts cite them; no public promise reaches them.
use Rattle.std.specs.Prelude.{◌≡◌, ◌==◌, Bool, true, false, if◌then◌else◌, ◌&&◌, List, [], ◌∷◌, ◌++◌, ℕ, ◌+◌, ◌-◌, ◌*◌, nat_le, length, take, drop, map, bytes_eq, codes, Option, Some, None, option_map, option_and_then}
use Rattle.std.specs.Borrow.{Bor}
use Rattle.std.specs.Char.{to_ascii_lowercase}
use Rattle.fmtp.specs.declared.Settings.{Settings}
use Rattle.fmtp.specs.declared.read_text.Item.{Item as Said}
use Rattle.fmtp.specs.declared.read_text.Item.TheVariants.{Bitrate, Tcmax}
use Rattle.fmtp.specs.declared.write_text.Cursor.{Cursor}
use Rattle.fmtp.specs.Text.{bitrate_name, tcmax_name, equals, semicolon, comma}
use Rattle.fmtp.specs.Meaning.{Item, bitrate, tcmax, bitrate_item, combined}

-- ---- the reader: each step takes what a text starts with

-- what a step takes, and the text behind it
abbrev pub Taken : Type 0 → Type 0
Taken A = Option (A × List ℕ)

-- the same of what a function answers
abbrev pub taken : {A : Type 0} → Option (A × Bor (List ℕ)) → Taken A
taken None = None
taken (Some p) = Some (p.0, p.1.now)

-- what an item says
abbrev pub item_of : Said → Item
item_of (Bitrate a b c) = bitrate a b c
item_of (Tcmax n) = tcmax n

-- an item that a function answers, and the text behind it
abbrev pub taken_item : Option (Said × Bor (List ℕ)) → Taken Item
taken_item None = None
taken_item (Some p) = Some (item_of p.0, p.1.now)

-- the next step, if there is a value
infixl 10 ◌>>=◌
abbrev pub ◌>>=◌ : {A B : Type 0} → Option A → (A → Option B) → Option B
o >>= f = option_and_then f o

-- the text behind a word that it starts with, in any letter case
unfoldable pub behind_word : List ℕ → List ℕ → Option (List ℕ)
behind_word w t = if bytes_eq (map to_ascii_lowercase (take (length w) t)) w then Some (drop (length w) t) else None

-- the number, if there is a text behind its own, or else another
abbrev pub or_else : ℕ → Option (List ℕ) → Taken ℕ → Taken ℕ
or_else n (Some t) other = Some (n, t)
or_else n None other = other

unfoldable pub take_rate : List ℕ → Taken ℕ
take_rate t = or_else 2400 (behind_word (codes "2400") t) (or_else 1200 (behind_word (codes "1200") t) (or_else 600 (behind_word (codes "600") t) None))

-- a rate behind a comma; where none stands, an unused place, of which there is no text
abbrev pub take_further : List ℕ → Taken ℕ
take_further [] = Some (0, [])
take_further (x ∷ t) = if x == comma then take_rate t else Some (0, x ∷ t)

-- one to three different rates, and the text behind them
unfoldable pub take_rates : List ℕ → Taken Item
take_rates t = do
  a ← take_rate t
  b ← take_further a.1
  c ← take_further b.1
  option_map (λ i. (i, c.1)) (bitrate_item a.0 b.0 c.0)

-- the number n where its digits end, with the text behind them: none if there are no digits
abbrev pub ended : ℕ → List ℕ → Taken ℕ
ended n t = if n == 0 then None else Some (n, t)

-- the number whose digits are those of n and then those that the text starts with: 1 to 255 with each digit that there is
abbrev pub digits_on : ℕ → List ℕ → Taken ℕ
digits_on n [] = ended n []
digits_on n (x ∷ t) =
    if nat_le 48 x && nat_le x 57
    then (if nat_le 1 (n * 10 + (x - 48)) && nat_le (n * 10 + (x - 48)) 255 then digits_on (n * 10 + (x - 48)) t else None)
    else ended n (x ∷ t)

-- a number of 1 to 255 without leading zeros
unfoldable pub take_number : List ℕ → Taken ℕ
take_number t = digits_on 0 t

-- the number of a tcmax item, and the text behind it
unfoldable pub take_tcmax : List ℕ → Taken Item
take_tcmax t = do
  value ← behind_word (tcmax_name ++ (equals ∷ [])) t
  n ← take_number value
  Some (tcmax n.0, n.1)

-- an item: of a text that starts with the name of one alone that one
abbrev pub item_behind : Option (List ℕ) → List ℕ → Taken Item
item_behind (Some value) t = take_rates value
item_behind None t = take_tcmax t

unfoldable pub take_item : List ℕ → Taken Item
take_item t = item_behind (behind_word (bitrate_name ++ (equals ∷ [])) t) t

-- the settings of a text that goes on so behind two items
abbrev pub settings_behind_two : Item → Item → List ℕ → Option Settings
settings_behind_two i j [] = combined (i ∷ j ∷ [])
settings_behind_two i j (x ∷ t) = None

-- the settings of a text that goes on so behind an item
abbrev pub settings_behind : Item → List ℕ → Option Settings
settings_behind i [] = combined (i ∷ [])
settings_behind i (x ∷ t) = if x == semicolon then (take_item t >>= λ j. settings_behind_two i j.0 j.1) else None

-- the settings that a whole text gives
unfoldable pub settings_in : List ℕ → Option Settings
settings_in [] = combined []
settings_in (x ∷ t) = take_item (x ∷ t) >>= λ i. settings_behind i.0 i.1

-- ---- the writer

-- a cursor puts the word behind what it has put; its buffer stays the same one, and what stands behind the word is as it was
pub record Puts (before : Cursor) (word : List ℕ) (after : Cursor) : Type 0 where
  pub buffer : after.out.ghost_name ≡ before.out.ghost_name
  pub room : length after.out.now ≡ length before.out.now
  pub end : after.end ≡ before.end + length word
  pub text : take after.end after.out.now ≡ take before.end before.out.now ++ word
  pub rest : drop after.end after.out.now ≡ drop after.end before.out.now
