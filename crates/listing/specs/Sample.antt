-- docs/FORMAT.md, "Listing": the input that is shown there, and its output.
use Rattle.std.specs.Prelude.{List, [], ◌∷◌, ◌++◌, ℕ}

-- `00 02 00 A0 01 FF`
abbrev pub input : List ℕ
input = 0x00 ∷ 0x02 ∷ 0x00 ∷ 0xa0 ∷ 0x01 ∷ 0xff ∷ []

-- `1 ok 0 0`, `2 ok 1 0`, `3 refused 2 1`, `end 3`
abbrev pub output : List ℕ
output =
    (49 ∷ 32 ∷ 111 ∷ 107 ∷ 32 ∷ 48 ∷ 32 ∷ 48 ∷ 10 ∷ [])
    ++ (50 ∷ 32 ∷ 111 ∷ 107 ∷ 32 ∷ 49 ∷ 32 ∷ 48 ∷ 10 ∷ [])
    ++ (51 ∷ 32 ∷ 114 ∷ 101 ∷ 102 ∷ 117 ∷ 115 ∷ 101 ∷ 100 ∷ 32 ∷ 50 ∷ 32 ∷ 49 ∷ 10 ∷ [])
    ++ (101 ∷ 110 ∷ 100 ∷ 32 ∷ 51 ∷ 10 ∷ [])
