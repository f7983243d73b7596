-- Fields as a table names their bits, and what packing and unpacking mean for any table. No mode and no width stands here.
use Rattle.std.specs.Prelude.{cond, ℕ, zero, suc, ◌+◌, ◌^◌, ltb, length, get_or, set, replicate}
use mathlib.Core.List.{List, [], ◌∷◌, ◌++◌, map, flatten}
use Rattle.fields.specs.Bits.{digits, spelled, bits_of, octets_of}

-- a table has, for each field in order, the numbers of its bits in the body, highest first; B_01 is bit 0
abbrev pub Table : Type 0
Table = List (List ℕ)

-- the field whose bits stand at these places of a body
unfoldable pub field_of : List ℕ → List ℕ → ℕ
field_of body places = spelled (map (λ (p : ℕ). get_or (bits_of body) p 0) places)

-- unpacking (docs/FORMAT.md, "Fields"): the fields of a body
unfoldable pub fields_of : Table → List ℕ → List ℕ
fields_of table body = map (field_of body) table

-- the bits of the fields, one field after another
unfoldable pub field_bits : Table → List ℕ → List ℕ
field_bits [] fields = []
field_bits (places ∷ table) [] = []
field_bits (places ∷ table) (v ∷ fields) = digits (length places) v ++ field_bits table fields

-- bits, with those of the second list put at the places that the first names
unfoldable pub placed : List ℕ → List ℕ → List ℕ → List ℕ
placed [] bs bits = bits
placed (p ∷ ps) [] bits = bits
placed (p ∷ ps) (b ∷ bs) bits = placed ps bs (set bits p b)

-- packing (docs/FORMAT.md, "Fields"): the body of seven octets in which each bit of each field stands at its place, and 0 at any other
unfoldable pub body_of : Table → List ℕ → List ℕ
body_of table fields = octets_of 7 (placed (flatten table) (field_bits table fields) (replicate 56 0))

-- the index of the first field that is too large for its bits ("field, from 0"); the number of fields where none is
unfoldable pub first_large : Table → List ℕ → ℕ
first_large [] fields = 0
first_large (places ∷ table) [] = 0
first_large (places ∷ table) (v ∷ fields) = cond (ltb v (2 ^ length places)) (suc (first_large table fields)) 0

-- the numbers of n neighbouring bits from a bit on
unfoldable pub run : ℕ → ℕ → List ℕ
run at zero = []
run at (suc n) = at ∷ run (suc at) n

-- the table of fields with these widths, one behind another from a bit on
unfoldable pub consecutive : ℕ → List ℕ → Table
consecutive at [] = []
consecutive at (w ∷ ws) = run at w ∷ consecutive (at + w) ws
