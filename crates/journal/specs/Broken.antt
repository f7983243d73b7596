-- Which refusal is given at octets that no legal entry's begin, said forwards.
use Rattle.std.specs.Prelude.{◌≡◌, List, [], ◌∷◌, ◌++◌, ℕ, ◌≤◌, ◌<◌, length}
use Rattle.refusal.specs.declared.Reason.{Reason}
use Rattle.refusal.specs.declared.Reason.TheVariants.{TooLong, BadNumber, EntryCut}
use Rattle.leb128.specs.Possible.{Possible, Begun}
use Rattle.journal.specs.Entry.{most_groups, top_number, most_octets, numeral}

-- numbers one after another, and then the rest
abbrev pub numbered : List ℕ → List ℕ → List ℕ
numbered [] rest = rest
numbered (n ∷ ns) rest = numeral n ++ numbered ns rest

-- each of them below 2^32
abbrev pub AllNumbers : List ℕ → Type 0
AllNumbers [] = Unit {0}
AllNumbers (n ∷ ns) = (n ≤ top_number) × AllNumbers ns

-- the octets xs are refused for this reason
pub data Broken (xs : List ℕ) : Reason → Type 0 where
  -- "18 bad number (from the first octet that leaves no good one possible)", behind fewer than three numbers
  bad : (ns rest : List ℕ) → length ns ≤ 2 → AllNumbers ns → xs ≡ numbered ns rest → (Possible most_groups top_number rest → ⊥)
      → Broken xs BadNumber
  -- "19 entry cut short": in a number
  cut : (ns rest : List ℕ) → length ns ≤ 2 → AllNumbers ns → xs ≡ numbered ns rest → (xs ≡ [] → ⊥) → Begun most_groups top_number rest
      → Broken xs EntryCut
  -- "a length over 1,400 is 1", whatever stands behind it
  long : (t s n : ℕ) (rest : List ℕ) → AllNumbers (t ∷ s ∷ n ∷ []) → xs ≡ numbered (t ∷ s ∷ n ∷ []) rest → most_octets < n
      → Broken xs TooLong
  -- "19 entry cut short": in the body
  body : (t s n : ℕ) (rest : List ℕ) → AllNumbers (t ∷ s ∷ n ∷ []) → xs ≡ numbered (t ∷ s ∷ n ∷ []) rest → n ≤ most_octets
      → length rest < n → Broken xs EntryCut
