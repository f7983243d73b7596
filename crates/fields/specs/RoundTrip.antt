-- The law of packing and unpacking by any table that names each bit once, for the theorems; no public promise cites this file.
use Rattle.std.specs.Prelude.{◌≡◌, cond, ℕ, ◌+◌, ◌^◌, ◌≤◌, ◌<◌, eqb, ltb, length, get_or}
use mathlib.Core.List.{List, [], ◌∷◌, flatten}
use Rattle.fields.specs.Table.{Table, fields_of, body_of}

-- the sum of widths
unfoldable pub total : List ℕ → ℕ
total [] = 0
total (w ∷ ws) = w + total ws

-- how often a list of places names a bit
unfoldable pub times : ℕ → List ℕ → ℕ
times p [] = 0
times p (q ∷ qs) = cond (eqb p q) 1 0 + times p qs

-- the table names each of the 54 bits of a body exactly once, and no other bit
pub record EachOnce (table : Table) : Type 0 where
  pub once : (p : ℕ) → times p (flatten table) ≡ cond (ltb p 54) 1 0

-- a legal body of a 600 bps frame (docs/FORMAT.md, "Frames"): seven octets, the last at most 63
pub record LegalBody (body : List ℕ) : Type 0 where
  pub seven : length body ≡ 7
  pub octets : (i : ℕ) → get_or body i 0 < 256
  pub end : get_or body 6 0 ≤ 63

-- as many fields as the table has, each small enough for its number of bits
pub record Fitting (table : Table) (fields : List ℕ) : Type 0 where
  pub as_many : length fields ≡ length table
  pub small : (i : ℕ) → get_or fields i 0 < 2 ^ length (get_or table i [])

-- "the round trip": a body comes back from its fields, and fields that fit from their body; a packed body is legal whatever the fields
pub record RoundTrip (table : Table) : Type 0 where
  pub body_again : (body : List ℕ) → LegalBody body → body_of table (fields_of table body) ≡ body
  pub fields_again : (fields : List ℕ) → Fitting table fields → fields_of table (body_of table fields) ≡ fields
  pub legal : (fields : List ℕ) → LegalBody (body_of table fields)
