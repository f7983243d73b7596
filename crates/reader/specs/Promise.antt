-- The reader's promise: the equations that fix its answer and both lent lists, and beside them what they must meet, said with `Legal` and
-- `octets_of` alone: docs/FORMAT.md, "Legal sequences", "Rows and bodies", "Sessions".
use Rattle.std.specs.Prelude.{◌≡◌, List, [], ◌++◌, ℕ, ◌*◌, ◌≤◌, length, drop, Some, Result}
use Rattle.refusal.specs.Report.{Report, accepted, report_of}
use Rattle.refusal.specs.declared.Refusal.{Refusal}
use Rattle.wire.specs.Frame.{Frame, framing_of, Legal, octets_of, rows_of, numbers_of, bodies_of}
use Rattle.wire.specs.Answers.{summary_of, nothing}
use Rattle.wire.specs.declared.Session.{Session}
use Rattle.wire.specs.declared.Framing.{Framing}
use Rattle.wire.specs.declared.Summary.{Summary}
use Rattle.reader.specs.Reading.{read_in}

-- "The room is too small exactly if the number list is shorter than 2n or the octet buffer shorter than m"
abbrev pub Room : List Frame → List ℕ → List ℕ → Type 0
Room fs r b = (2 * length fs ≤ length r) × (length (bodies_of fs) ≤ length b)

-- the frames fs are what is handed back: "it puts their kinds and TCs into the first 2n numbers and their bodies into the first m
-- octets .. and reports n rows and m body octets", and with them their rate and ticks
pub record HandedBack (fs : List Frame) (r b : List ℕ) (a : Report Summary) (r' b' : List ℕ) : Type 0 where
  pub numbers : a ≡ accepted (summary_of fs)
  pub rows : r' ≡ numbers_of (rows_of fs) ++ drop (2 * length fs) r
  pub bodies : b' ≡ bodies_of fs ++ drop (length (bodies_of fs)) b

-- a refusal reports nothing and changes nothing
pub record Unchanged (r b : List ℕ) (a : Report Summary) (r' b' : List ℕ) : Type 0 where
  pub value : a.value ≡ nothing
  pub rows : r' ≡ r
  pub bodies : b' ≡ b

-- what holds of a payload p that was read into r and b: the report a, and what the lists are then, r' and b'
pub record Demand (fr : Framing) (p r b : List ℕ) (a : Report Summary) (r' b' : List ℕ) : Type 0 where
  -- refused: no legal sequence that gives the octets has room
  pub refused : (a.number ≡ 0 → ⊥) → (fs : List Frame) → Legal fr fs → octets_of fr fs ≡ p → Room fs r b → ⊥
  -- accepted: there is one
  pub accepted : a.number ≡ 0 → (fs : List Frame) × Legal fr fs × (octets_of fr fs ≡ p) × Room fs r b
  -- it is what is handed back
  pub handed : (fs : List Frame) → Legal fr fs → octets_of fr fs ≡ p → Room fs r b → HandedBack fs r b a r' b'
  -- it is the only one
  pub unique : (fs gs : List Frame) → Legal fr fs → Legal fr gs → octets_of fr fs ≡ p → octets_of fr gs ≡ p → fs ≡ gs
  -- refused: nothing is reported, nothing changes
  pub unchanged : (a.number ≡ 0 → ⊥) → Unchanged r b a r' b'
  -- "at most 200 frames"
  pub most : a.value.frames ≤ 200
  -- accepted with no rows exactly if the payload is empty
  pub empty : p ≡ [] → (a.number ≡ 0) × (a.value.frames ≡ 0)
  pub only_empty : a.number ≡ 0 → a.value.frames ≡ 0 → p ≡ []

-- what `read` promises in the session ses of a payload p that is read into r and b: its answer a, and what the lists are then, r' and b'
pub record Reads (ses : Session) (p r b : List ℕ) (a : Result Summary Refusal) (r' b' : List ℕ) : Type 0 where
  pub answer : a ≡ (read_in (framing_of ses) p r b).answer
  -- a refusal "returns its number and a place, reports 0 rows and 0 octets"
  pub numbers : report_of nothing a ≡ report_of nothing (read_in (framing_of ses) p r b).answer
  pub rows : r' ≡ (read_in (framing_of ses) p r b).rows
  pub bodies : b' ≡ (read_in (framing_of ses) p r b).bodies
  -- "The coder frames of a legal sequence are then all of that rate, and demands 2 and 3 hold for each of these three session records"
  pub demand : (fr : Framing) → framing_of ses ≡ Some fr → Demand fr p r b (report_of nothing a) r' b'
