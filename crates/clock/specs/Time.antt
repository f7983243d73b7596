-- docs/FORMAT.md, "Time" and "Sessions": packet time in ticks, ptime in milliseconds.
use Rattle.std.specs.Prelude.{◌≡◌, cond, ◌&&◌, List, ℕ, ◌+◌, ◌*◌, ◌/◌, leb, Option, Some, None, Result, Ok, Err}
use Rattle.refusal.specs.Report.{Report, accepted, refused_with, refusal, report_of}
use Rattle.refusal.specs.declared.Reason.TheVariants.{Unknown}
use Rattle.refusal.specs.declared.Refusal.{Refusal}
use Rattle.wire.specs.Frame.{Frame, framing_of, Legal, octets_of, rows_of, sum_of, ticks, is_rate, ticks_of_rate}
use Rattle.wire.specs.Walk.{Walk, at, refused, read_of}
use Rattle.wire.specs.declared.Session.{Session}
use Rattle.wire.specs.declared.Framing.{Framing}
use Rattle.clock.specs.declared.Ticks.{Ticks}
use Rattle.clock.specs.declared.Millis.{Millis}

-- so many ticks
abbrev pub ticks_in : ℕ → Ticks
ticks_in n = record { 0 = n }

-- so many milliseconds: "two units", and two types
abbrev pub millis_in : ℕ → Millis
millis_in n = record { 0 = n }

-- what a sequence of frames lasts: the ticks of its frames, added up
abbrev pub ticks_of : List Frame → ℕ
ticks_of fs = sum_of ticks (rows_of fs)

-- what a payload lasts, by the walk over it; "A refused payload gives its refusal"
abbrev pub time_of : Walk → Result Ticks Refusal
time_of (at u fs) = Ok (ticks_in (ticks_of fs))
time_of (refused r place behind) = Err (refusal r place)

-- what it lasts in a session, by the framing that this has, if it is a legal one: "any other agreed rate is 12 at 0, before all else"
abbrev pub time_in : Option Framing → List ℕ → Result Ticks Refusal
time_in None p = Err (refusal Unknown 0)
time_in (Some fr) p = time_of (read_of fr p)

-- what `packet_ticks` promises in the session ses of a payload p: its answer by the walk, and by legal sequences alone; and its numbers, of a
-- refusal "its refusal and 0 ticks"
pub record PacketTime (ses : Session) (p : List ℕ) (a : Result Ticks Refusal) : Type 0 where
  pub answer : a ≡ time_in (framing_of ses) p
  pub numbers : report_of (ticks_in 0) a ≡ report_of (ticks_in 0) (time_in (framing_of ses) p)
  -- of a legal sequence that gives p, its ticks
  pub ticks : (fr : Framing) → framing_of ses ≡ Some fr → (fs : List Frame) → Legal fr fs → octets_of fr fs ≡ p → report_of (ticks_in 0) a ≡ accepted (ticks_in (ticks_of fs))
  -- accepted: there is one
  pub accepted : (fr : Framing) → framing_of ses ≡ Some fr → (report_of (ticks_in 0) a).number ≡ 0 → (fs : List Frame) × Legal fr fs × (octets_of fr fs ≡ p)

-- "ptime of n frames is n times the ticks, divided by 8, rounded up; n is 1 to 200, else refusal 12 and 0"; 12 for an unknown rate too.
-- So five and seven frames at 2400 are 113 and 158 milliseconds, where RFC 8817 lists 112 and 156 against its own rule
unfoldable pub ptime_of : ℕ → ℕ → Report Millis
ptime_of rate n =
    cond (is_rate rate && (leb 1 n && leb n 200)) (accepted (millis_in ((n * ticks_of_rate rate + 7) / 8)))
    (refused_with (millis_in 0) (refusal Unknown 0))

-- what `ptime` promises of a rate and n frames
abbrev pub Ptime : ℕ → ℕ → Result Millis Refusal → Type 0
Ptime rate n a = report_of (millis_in 0) a ≡ ptime_of rate n
