-- What some octets may still become (docs/FORMAT.md, "Journal": "bad number (from the first octet that leaves no good one possible)").
use Rattle.std.specs.Prelude.{◌≡◌, List, ◌∷◌, ◌++◌, ℕ}
use Rattle.leb128.specs.Number.{groups_of, Within}

-- "leaves a good one possible": with further octets behind these, a number stands at their start
pub record Possible (most bound : ℕ) (xs : List ℕ) : Type 0 where
  pub value : ℕ
  pub further : List ℕ
  pub rest : List ℕ
  pub good : Within most bound value
  pub text : xs ++ further ≡ groups_of most value ++ rest

-- a number's octets begin with these, and go on
pub record Begun (most bound : ℕ) (xs : List ℕ) : Type 0 where
  pub value : ℕ
  pub next : ℕ
  pub further : List ℕ
  pub good : Within most bound value
  pub text : groups_of most value ≡ xs ++ (next ∷ further)
