-- What the public functions answer, and the numbers of each case (docs/FORMAT.md, "Refusals").
use Rattle.std.specs.Prelude.{List, ℕ, length, Result, Ok, Err}
use Rattle.refusal.specs.Report.{Report, accepted, refused_with, refusal}
use Rattle.refusal.specs.declared.Refusal.{Refusal}
use Rattle.wire.specs.Frame.{body_octets, wire_octets, sum_of}
use Rattle.wire.specs.declared.Row.{Row}
use Rattle.writer.specs.Rows.{Outcome, passed, refused}
use Rattle.writer.specs.declared.Totals.{Totals}

-- ---- the checks of rows alone

-- rows that are in order: how many, the octets of their bodies, and their octets on the wire
abbrev pub totals : List Row → Totals
totals xs = record { rows = length xs; bodies = sum_of body_octets xs; wire = sum_of wire_octets xs }

-- "0 rows and 0 octets"
abbrev pub no_totals : Totals
no_totals = record { rows = 0; bodies = 0; wire = 0 }

-- the answer of these checks
abbrev pub row_check_of : Outcome (List Row) → Result Totals Refusal
row_check_of (passed xs) = Ok (totals xs)
row_check_of (refused reason place) = Err (refusal reason place)

-- the numbers of what these checks come to
abbrev pub rows_report : Outcome (List Row) → Report Totals
rows_report (passed xs) = accepted (totals xs)
rows_report (refused reason place) = refused_with no_totals (refusal reason place)

-- ---- the writer

-- the writer's answer
abbrev pub writing_of : Outcome (List ℕ) → Result ℕ Refusal
writing_of (passed os) = Ok (length os)
writing_of (refused reason place) = Err (refusal reason place)

-- the numbers of what a writing comes to: the octets written, 0 under a refusal
abbrev pub write_report : Outcome (List ℕ) → Report ℕ
write_report (passed os) = accepted (length os)
write_report (refused reason place) = refused_with 0 (refusal reason place)
