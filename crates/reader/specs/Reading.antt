-- What reading a payload answers, and what the lent rows and bodies hold afterwards: docs/FORMAT.md, "Reading" and "Sessions".
use Rattle.std.specs.Prelude.{cond, List, ◌++◌, ℕ, ◌*◌, ◌/◌, ltb, length, drop, Option, Some, None, Result, Ok, Err}
use Rattle.refusal.specs.Report.{refusal}
use Rattle.refusal.specs.declared.Reason.TheVariants.{NumbersTooShort, OctetsTooShort, Unknown}
use Rattle.refusal.specs.declared.Refusal.{Refusal}
use Rattle.wire.specs.Frame.{Frame, rows_of, numbers_of, bodies_of}
use Rattle.wire.specs.Walk.{Walk, at, refused, read_of}
use Rattle.wire.specs.Answers.{summary_of}
use Rattle.wire.specs.declared.Framing.{Framing}
use Rattle.wire.specs.declared.Summary.{Summary}

-- an answer, and what the lent rows and bodies hold afterwards
pub record Outcome : Type 0 where
  pub answer : Result Summary Refusal
  pub rows : List ℕ
  pub bodies : List ℕ

-- a refusal "leaves all lent memory unchanged": the rows r and the bodies b are as they were
abbrev pub kept : List ℕ → List ℕ → Refusal → Outcome
kept r b x = record { answer = Err x; rows = r; bodies = b }

-- an accepted read: rows and bodies in the first places, "all beyond them stays unchanged"
abbrev pub handed_out : List ℕ → List ℕ → List Frame → Outcome
handed_out r b fs = record {
  answer = Ok (summary_of fs);
  rows = numbers_of (rows_of fs) ++ drop (2 * length fs) r;
  bodies = bodies_of fs ++ drop (length (bodies_of fs)) b;
}

-- 9, at the "rows needed"
abbrev pub few_numbers : List ℕ → List ℕ → List Frame → Outcome
few_numbers r b fs = kept r b (refusal NumbersTooShort (length fs))

-- 10, at the "octets needed"
abbrev pub few_octets : List ℕ → List ℕ → List Frame → Outcome
few_octets r b fs = kept r b (refusal OctetsTooShort (length (bodies_of fs)))

-- "After the walk: 9, then 10. An odd number list has room for half its length, rounded down"
unfoldable pub outcome : List ℕ → List ℕ → Walk → Outcome
outcome r b (refused x place behind) = kept r b (refusal x place)
outcome r b (at u fs) = cond (ltb (length r / 2) (length fs)) (few_numbers r b fs) (cond (ltb (length b) (length (bodies_of fs))) (few_octets r b fs) (handed_out r b fs))

-- reading the payload p into the lent rows r and bodies b
abbrev pub read_into : Framing → List ℕ → List ℕ → List ℕ → Outcome
read_into fr p r b = outcome r b (read_of fr p)

-- the same in a session, by the framing that it has, if it is a legal one: "any other agreed rate is 12 at 0, before all else"
abbrev pub read_in : Option Framing → List ℕ → List ℕ → List ℕ → Outcome
read_in None p r b = kept r b (refusal Unknown 0)
read_in (Some fr) p r b = read_into fr p r b
