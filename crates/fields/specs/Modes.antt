-- The modes of the 600 bps fields: docs/FORMAT.md, "Fields".
use Rattle.std.specs.Prelude.{Bool, ◌&&◌, List, [], ◌∷◌, ℕ, ◌-◌, leb, length, get_or}
use Rattle.fields.specs.Table.{Table, consecutive}

-- "widths in bits, from B_01 on", a list for each mode
unfoldable pub widths : List (List ℕ)
widths =
    -- Voicing; LSF1,4; LSF1,3; LSF1,2; LSF1,1; LSF2,4; LSF2,3; LSF2,2; LSF2,1; GAIN2; GAIN1
    (5 ∷ 4 ∷ 4 ∷ 4 ∷ 6 ∷ 4 ∷ 4 ∷ 4 ∷ 6 ∷ 6 ∷ 7 ∷ [])
    -- Voicing; Pitch; LSF1,3; LSF1,2; LSF1,1; LSF2,3; LSF2,2; LSF2,1; GAIN2; GAIN1
    ∷ (5 ∷ 6 ∷ 4 ∷ 4 ∷ 6 ∷ 4 ∷ 5 ∷ 7 ∷ 6 ∷ 7 ∷ [])
    -- Voicing; Pitch; LSF1,3; LSF1,2; LSF1,1; LSF2,3; LSF2,2; LSF2,1; GAIN2; GAIN1
    ∷ (5 ∷ 8 ∷ 4 ∷ 5 ∷ 6 ∷ 4 ∷ 5 ∷ 6 ∷ 5 ∷ 6 ∷ [])
    ∷ []

-- modes are numbered from 1 on, one for each list
unfoldable pub is_mode : ℕ → Bool
is_mode mode = leb 1 mode && leb mode (length widths)

-- the widths of a mode
unfoldable pub widths_of : ℕ → List ℕ
widths_of mode = get_or widths (mode - 1) []

-- the bits of a mode's fields: one field behind another from B_01 on
unfoldable pub table_of : ℕ → Table
table_of mode = consecutive 0 (widths_of mode)

-- the number of a mode's fields
unfoldable pub count_of : ℕ → ℕ
count_of mode = length (table_of mode)
