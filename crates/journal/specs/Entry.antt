-- docs/FORMAT.md, "Journal", said forwards: an entry, a legal entry, its octets, and a journal's octets.
use Rattle.std.specs.Prelude.{List, [], ◌∷◌, ◌++◌, ℕ, ◌≤◌, length}
use Rattle.leb128.specs.Number.{groups_of}

-- "ticks since the entry before, source number, payload length, payload": the length is the payload's
pub record Entry : Type 0 where
  pub ticks : ℕ
  pub source : ℕ
  pub payload : List ℕ

-- "at most five groups"
abbrev pub most_groups : ℕ
most_groups = 5

-- "each below 2^32"
abbrev pub top_number : ℕ
top_number = 4294967295

-- "length at most 1,400"
abbrev pub most_octets : ℕ
most_octets = 1400

-- an entry that a journal may hold
pub record Legal (e : Entry) : Type 0 where
  pub ticks : e.ticks ≤ top_number
  pub source : e.source ≤ top_number
  pub payload : length e.payload ≤ most_octets

-- "The three numbers stand in groups of seven bits as in the listing, shortest form"
unfoldable pub numeral : ℕ → List ℕ
numeral n = groups_of most_groups n

-- an entry's octets
abbrev pub entry_octets : Entry → List ℕ
entry_octets e = numeral e.ticks ++ (numeral e.source ++ (numeral (length e.payload) ++ e.payload))

-- "A journal is a run of entries": its octets are those of its entries, one after another
abbrev pub journal_octets : List Entry → List ℕ
journal_octets [] = []
journal_octets (e ∷ es) = entry_octets e ++ journal_octets es

-- every entry of a journal is legal
abbrev pub AllLegal : List Entry → Type 0
AllLegal [] = Unit {0}
AllLegal (e ∷ es) = Legal e × AllLegal es
