-- Reading the entry at the start of some octets: "number before length, length before body".
use Rattle.std.specs.Prelude.{cond, List, [], ◌∷◌, ℕ, ltb, length, take, drop}
use Rattle.refusal.specs.declared.Reason.{Reason}
use Rattle.refusal.specs.declared.Reason.TheVariants.{TooLong, BadNumber, EntryCut}
use Rattle.leb128.specs.Number.{Head, number, short, none, head_of}
use Rattle.journal.specs.Entry.{Entry, most_groups, top_number, most_octets}

-- what stands at the start: an entry, with the octets behind it; nothing, at the journal's end; no entry, with a refusal's reason
pub data Reading : Type 0 where
  entry : Entry → List ℕ → Reading
  end : Reading
  broken : Reason → Reading

-- a number, with which reading goes on behind it; "18 bad number", "19 entry cut short"
abbrev pub judged : (ℕ → List ℕ → Reading) → Head → Reading
judged onward (number n rest) = onward n rest
judged onward (short v k) = broken EntryCut
judged onward none = broken BadNumber

-- a number at the start of the octets
unfoldable pub number_then : (ℕ → List ℕ → Reading) → List ℕ → Reading
number_then onward xs = judged onward (head_of most_groups top_number xs)

-- "a length over 1,400 is 1", and then the body
unfoldable pub body_then : ℕ → ℕ → ℕ → List ℕ → Reading
body_then ticks source n xs =
    cond (ltb most_octets n) (broken TooLong)
    (cond (ltb (length xs) n) (broken EntryCut) (entry (record { ticks = ticks; source = source; payload = take n xs }) (drop n xs)))

-- behind the ticks and the source number
abbrev pub behind_source : ℕ → ℕ → List ℕ → Reading
behind_source ticks source xs = number_then (body_then ticks source) xs

-- behind the ticks
abbrev pub behind_ticks : ℕ → List ℕ → Reading
behind_ticks ticks xs = number_then (behind_source ticks) xs

-- from the start
abbrev pub reading_of : List ℕ → Reading
reading_of [] = end
reading_of (x ∷ xs) = number_then behind_ticks (x ∷ xs)
