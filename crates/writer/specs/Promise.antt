-- What the public functions promise: their numbers and the lent buffer by definitions, and of the writer when it accepts, over wire's
-- legal sequences alone, and what is written then.
use Rattle.std.specs.Prelude.{◌≡◌, List, ◌++◌, ℕ, ◌≤◌, length, drop, Some, Result}
use Rattle.refusal.specs.Report.{Report, accepted, report_of}
use Rattle.refusal.specs.declared.Refusal.{Refusal}
use Rattle.wire.specs.Frame.{framing_of, Frame, Legal, octets_of, rows_of, numbers_of, bodies_of}
use Rattle.wire.specs.declared.Session.{Session}
use Rattle.wire.specs.declared.Framing.{Framing}
use Rattle.wire.specs.declared.Framing.TheVariants.{Unframed}
use Rattle.writer.specs.Rows.{check_of}
use Rattle.writer.specs.Write.{write_in, out_of}
use Rattle.writer.specs.Answers.{no_totals, row_check_of, rows_report, writing_of, write_report}
use Rattle.writer.specs.declared.Totals.{Totals}

-- what `check_rows` promises of the numbers ns, where framing is not agreed
pub record Checks (ns : List ℕ) (r : Result Totals Refusal) : Type 0 where
  pub answer : r ≡ row_check_of (check_of Unframed ns)
  pub numbers : report_of no_totals r ≡ rows_report (check_of Unframed ns)

-- rows and bodies describe this legal sequence
pub record Describe (fr : Framing) (ns bs : List ℕ) (fs : List Frame) : Type 0 where
  pub legal : Legal fr fs
  pub rows : ns ≡ numbers_of (rows_of fs)
  pub bodies : bs ≡ bodies_of fs

-- the writer, asked to write ns and bs into `out`, gave these numbers and left `left` there: it accepts exactly if ns and bs describe
-- a legal sequence and there is room for its octets; then those are written, first, and nothing beyond is changed. There is
-- no other such sequence. A refusal "reports .. 0 octets, and leaves all lent memory unchanged".
pub record Exact (fr : Framing) (ns bs out : List ℕ) (r : Report ℕ) (left : List ℕ) : Type 0 where
  pub accepts : r.number ≡ 0 → (fs : List Frame) × Describe fr ns bs fs × (length (octets_of fr fs) ≤ length out)
  pub written : (fs : List Frame) → Describe fr ns bs fs → length (octets_of fr fs) ≤ length out
      → (r ≡ accepted (length (octets_of fr fs))) × (left ≡ octets_of fr fs ++ drop (length (octets_of fr fs)) out)
  pub unique : (fs gs : List Frame) → Describe fr ns bs fs → Describe fr ns bs gs → fs ≡ gs
  pub unchanged : (r.number ≡ 0 → ⊥) → (r.value ≡ 0) × (left ≡ out)

-- what `write` promises in a session: its answer and numbers in the order and at the places of `write_in`, what `out` holds at exit, and in
-- each legal session the exactness above
pub record Writes (ses : Session) (ns bs out : List ℕ) (r : Result ℕ Refusal) (left : List ℕ) : Type 0 where
  pub answer : r ≡ writing_of (write_in (framing_of ses) ns bs (length out))
  pub numbers : report_of 0 r ≡ write_report (write_in (framing_of ses) ns bs (length out))
  pub leaves : left ≡ out_of (write_in (framing_of ses) ns bs (length out)) out
  pub exact : (fr : Framing) → framing_of ses ≡ Some fr → Exact fr ns bs out (report_of 0 r) left
