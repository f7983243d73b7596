-- What the functions of this crate answer, from the definitions of Frame and Walk.
use Rattle.std.specs.Prelude.{◌≡◌, List, [], ◌∷◌, ℕ, length, Option, Some, None, Result, Ok, Err, ok_or}
use Rattle.refusal.specs.Report.{Report, accepted, refused_with, refusal, report_of}
use Rattle.refusal.specs.declared.Reason.{Reason}
use Rattle.refusal.specs.declared.Reason.TheVariants.{Unknown}
use Rattle.refusal.specs.declared.Refusal.{Refusal}
use Rattle.wire.specs.Frame.{Frame, table, kind_of, framing_of, agreed_rate, entry_in, count_of, body_octets, wire_octets, ticks, sum_of, rows_of, bodies_of, numbers_of}
use Rattle.wire.specs.Walk.{Walk, at, refused, rate_of, read_of, ending}
use Rattle.wire.specs.declared.Session.{Session}
use Rattle.wire.specs.declared.Framing.{Framing}
use Rattle.wire.specs.declared.Kind.{Kind}
use Rattle.wire.specs.declared.Row.{Row}
use Rattle.wire.specs.declared.Shape.{Shape}
use Rattle.wire.specs.declared.Summary.{Summary}

-- the numbers for each case: the kind's own number, or "12 unknown kind"
abbrev pub known_report : Result Kind Reason → Report ℕ
known_report (Ok k) = accepted (table k).number
known_report (Err r) = refused_with 0 (refusal r 0)

-- the numbers of a look-up
abbrev pub kind_report : Option Kind → Report ℕ
kind_report None = refused_with 0 (refusal Unknown 0)
kind_report (Some k) = accepted (table k).number

-- what `Kind::try_from` promises of a number
pub record KindKnown (n : ℕ) (r : Result Kind Reason) : Type 0 where
  pub answer : r ≡ ok_or (kind_of n) Unknown
  pub numbers : known_report r ≡ kind_report (kind_of n)

-- the numbers for each case: the rate agreed, or "12 unknown rate"
abbrev pub known_framing_report : Result Framing Refusal → Report ℕ
known_framing_report (Ok fr) = accepted (agreed_rate fr)
known_framing_report (Err r) = refused_with 0 r

-- the numbers of a session record
abbrev pub framing_report : Option Framing → Report ℕ
framing_report None = refused_with 0 (refusal Unknown 0)
framing_report (Some fr) = accepted (agreed_rate fr)

-- what `Framing::try_from` promises of a session record
pub record FramingKnown (s : Session) (r : Result Framing Refusal) : Type 0 where
  pub answer : r ≡ ok_or (framing_of s) (refusal Unknown 0)
  pub numbers : known_framing_report r ≡ framing_report (framing_of s)

-- the numbers for what u unread octets name by their end: those of the row, or the refusal, at the octets unread
abbrev pub ending_report : ℕ → Result Row Reason → Report (List ℕ)
ending_report u (Err r) = refused_with [] (refusal r u)
ending_report u (Ok x) = accepted (numbers_of (x ∷ []))

-- what `identify` promises of unread octets
pub record Identified (fr : Framing) (unread : List ℕ) (r : Result Row Reason) : Type 0 where
  pub answer : r ≡ ending fr unread (length unread)
  pub numbers : ending_report (length unread) r ≡ ending_report (length unread) (ending fr unread (length unread))

-- a frame's numbers, from its row
abbrev pub shape_of : Framing → Row → Shape
shape_of fr x = record { entry = entry_in fr (table x.kind); tc = x.tc; count = length (count_of x); body = body_octets x; wire = wire_octets x }

-- what a step comes to, from what was found
abbrev pub step_of : Framing → Result Row Reason → Result Shape Reason
step_of fr (Err r) = Err r
step_of fr (Ok x) = Ok (shape_of fr x)

-- what a sequence holds: frames, octets of their bodies, the rate of its coder frames (0 where there are none), ticks
abbrev pub summary_of : List Frame → Summary
summary_of fs = record {
  frames = length fs;
  octets = length (bodies_of fs);
  rate = rate_of 0 (rows_of fs);
  ticks = sum_of ticks (rows_of fs);
}

-- what the walk answers
abbrev pub walked_of : Walk → Result Summary Refusal
walked_of (at u fs) = Ok (summary_of fs)
walked_of (refused r place behind) = Err (refusal r place)

-- a sequence of no frames, and "0 rows and 0 octets" of a refusal
abbrev pub nothing : Summary
nothing = record { frames = 0; octets = 0; rate = 0; ticks = 0 }

-- the numbers of a walk
abbrev pub walk_report : Walk → Report Summary
walk_report (at u fs) = accepted (summary_of fs)
walk_report (refused r place behind) = refused_with nothing (refusal r place)

-- what `walk` promises of a payload p
pub record Walks (fr : Framing) (p : List ℕ) (r : Result Summary Refusal) : Type 0 where
  pub answer : r ≡ walked_of (read_of fr p)
  pub numbers : report_of nothing r ≡ walk_report (read_of fr p)
