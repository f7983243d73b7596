-- What the journal's functions answer, in numbers, and what the lent memory then holds: docs/FORMAT.md, "Journal".
use Rattle.std.specs.Prelude.{◌≡◌, cond, ◌||◌, List, ℕ, ◌+◌, ◌-◌, ltb, length, take, drop, Option, Some, None, Result, Ok, Err}
use Rattle.std.specs.Result.{result_map_both}
use Rattle.refusal.specs.Numbers.{number_of}
use Rattle.refusal.specs.Report.{Report, accepted, refused_with, report_of, refusal, filled}
use Rattle.refusal.specs.declared.Reason.{Reason}
use Rattle.refusal.specs.declared.Reason.TheVariants.{TooLong, OctetsTooShort, BadNumber, EntryCut}
use Rattle.refusal.specs.declared.Refusal.{Refusal}
use Rattle.octets.specs.Part.{Part}
use Rattle.leb128.specs.Number.{found_at}
use Rattle.leb128.specs.declared.Found.{Found}
use Rattle.leb128.specs.declared.NumberError.{NumberError}
use Rattle.leb128.specs.declared.NumberError.TheVariants.{Short, Bad}
use Rattle.journal.specs.Entry.{Entry, most_groups, top_number, most_octets, entry_octets}
use Rattle.journal.specs.Reading.{Reading, entry, end, broken, reading_of}
use Rattle.journal.specs.declared.Entry.{Entry as Place}

-- ---- the writer

-- "writer: 18, 1, 10", with room for so many octets
unfoldable pub writing : Entry → ℕ → Report ℕ
writing e room =
    cond (ltb top_number e.ticks || ltb top_number e.source) (refused_with 0 (refusal BadNumber 0))
    (cond (ltb most_octets (length e.payload)) (refused_with 0 (refusal TooLong most_octets))
    (cond (ltb room (length (entry_octets e))) (refused_with 0 (refusal OctetsTooShort (length (entry_octets e))))
    (accepted (length (entry_octets e)))))

-- what `write_entry` promises: its answer, and the lent octets afterwards
pub record Writes (e : Entry) (before after : List ℕ) (r : Result ℕ Refusal) : Type 0 where
  pub answer : report_of 0 r ≡ writing e (length before)
  pub octets : after ≡ filled (writing e (length before)) (entry_octets e) before

-- ---- the reader

-- how many entries are handed out, 1 or 0; and of this entry its ticks, its source, where its payload starts, and where the next entry
-- begins: all 0 where there is none
pub record Located : Type 0 where
  pub entries : ℕ
  pub ticks : ℕ
  pub source : ℕ
  pub start : ℕ
  pub next : ℕ

-- no entry
abbrev pub no_entry : Located
no_entry = record { entries = 0; ticks = 0; source = 0; start = 0; next = 0 }

-- an entry
abbrev pub handed : ℕ → ℕ → ℕ → ℕ → Report Located
handed t s a b = accepted (record { entries = 1; ticks = t; source = s; start = a; next = b })

-- no entry: a refusal, or the end, whose number and place are 0
abbrev pub nothing : ℕ → ℕ → Report Located
nothing n p = record { number = n; place = p; value = no_entry }

-- the numbers of what stands at an index
abbrev pub located_of : Option Place → Located
located_of (Some e) = record { entries = 1; ticks = e.ticks; source = e.source; start = e.start; next = e.next }
located_of None = no_entry

-- the numbers for each case of what `entry_at` answers
abbrev pub standing_report : Result (Option Place) Refusal → Report Located
standing_report r = report_of no_entry (result_map_both located_of (λ x. x) r)

-- what reading from the index a on comes to, of n octets: "its place is where the refused entry begins"
abbrev pub reported : ℕ → ℕ → Reading → Report Located
reported n a (entry e rest) = handed e.ticks e.source (n - length rest - length e.payload) (n - length rest)
reported n a end = accepted no_entry
reported n a (broken r) = nothing (number_of r) a

-- the same, as `entry_at` answers it
abbrev pub standing_of : ℕ → ℕ → Reading → Result (Option Place) Refusal
standing_of n a (entry e rest) = Ok (Some (record { ticks = e.ticks; source = e.source; start = n - length rest - length e.payload; next = n - length rest }))
standing_of n a end = Ok None
standing_of n a (broken r) = Err (refusal r a)

-- what stands at the index a of the octets xs
unfoldable pub standing_at : List ℕ → ℕ → Result (Option Place) Refusal
standing_at xs a = standing_of (length xs) a (reading_of (drop a xs))

-- the numbers of the entry at the index a of the octets xs
unfoldable pub entry_at : List ℕ → ℕ → Report Located
entry_at xs a = reported (length xs) a (reading_of (drop a xs))

-- what `entry_at` promises of the journal xs and the index a
pub record Stands (xs : List ℕ) (a : ℕ) (r : Result (Option Place) Refusal) : Type 0 where
  pub answer : r ≡ standing_at xs a
  pub numbers : standing_report r ≡ entry_at xs a

-- why an entry is refused, where a number of it is none
abbrev pub number_reason : NumberError → Reason
number_reason Short = EntryCut
number_reason Bad = BadNumber

-- the number at the index i of the octets xs, of the entry that begins at a
abbrev pub entry_number : List ℕ → ℕ → ℕ → Result Found Refusal
entry_number xs i a = result_map_both (λ f. f) (λ e. refusal (number_reason e) a) (found_at most_groups top_number xs i)

-- the payload of an entry that is reported of the journal j; the empty part at its start where none is
abbrev pub payload_of : {A : Type 0} → Report Located → Part A → Part A
payload_of r j = record {
  block = j.block;
  start = j.start + r.value.start;
  octets = take (r.value.next - r.value.start) (drop r.value.start j.octets);
}
