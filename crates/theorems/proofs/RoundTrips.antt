-- Reading and writing undo each other in each session, from their promises alone.
use mathlib.Core.Path.{◌≡◌, refl, sym, ap, ◌∙◌}
use mathlib.Core.List.{List, [], ◌∷◌, ◌++◌}
use Prim.Native.Nat.{ℕ, ◌*◌, ◌≤◌}
use native.Mathlib.Omega.{arith}
use lib.ListN.{length, take, drop}
use lib.Seq.{take_at}
use Rattle.refusal.specs.Report.{Report, accepted, report_of}
use Rattle.std.specs.Prelude.{Result, Option}
use Rattle.refusal.specs.declared.Refusal.{Refusal}
use Rattle.wire.specs.Frame.{Frame, octets_of, rows_of, numbers_of, bodies_of}
use Rattle.wire.specs.declared.Session.{Session}
use Rattle.wire.specs.declared.Framing.{Framing}
use Rattle.wire.specs.declared.Row.{Row}
use Rattle.wire.specs.declared.Summary.{Summary}
use Rattle.wire.proofs.Complete.{length_rows}
use Rattle.reader.specs.Reading.{read_in}
use Rattle.reader.specs.Promise.{Reads}
use Rattle.writer.specs.Answers.{write_report}
use Rattle.writer.specs.Write.{write_in}
use Rattle.writer.specs.Promise.{Writes, Describe}
use Rattle.theorems.proofs.Sessions.{legal_session}
use Rattle.wire.specs.Answers.{nothing}

length_numbers : (xs : List Row) → length (numbers_of xs) ≡ 2 * length xs
length_numbers [] = refl
length_numbers (x ∷ xs) = omega (arith, length_numbers xs)

numbers_of_lem : (fs : List Frame) → length (numbers_of (rows_of fs)) ≡ 2 * length fs
numbers_of_lem fs = length_numbers (rows_of fs) ∙ ap (λ (n : ℕ). 2 * n) (length_rows fs)

pub read_written : (ses : Session) (ns bs out left : List ℕ) (w : Result ℕ Refusal) → Writes ses ns bs out w left → (report_of 0 w).number ≡ 0
    → (r b r' b' : List ℕ) (a : Result Summary Refusal) → Reads ses (take (report_of 0 w).value left) r b a r' b' → length ns ≤ length r → length bs ≤ length b
    → ((report_of nothing a).number ≡ 0) × (r' ≡ ns ++ drop (length ns) r) × (b' ≡ bs ++ drop (length bs) b)
read_written ses ns bs out left w h z r b r' b' a g hr hb =
    let s = legal_session ses (λ (m : Option Framing). (write_report (write_in m ns bs (length out))).number) refl (ap (λ (x : Report ℕ). x.number) (sym h.numbers) ∙ z) in
    let fr : Framing = s.0 in
    let exact = h.exact fr s.1 in
    let d = exact.accepts z in
    let fs : List Frame = d.0 in
    let put = exact.written fs d.1 d.2 in
    let value : (report_of 0 w).value ≡ length (octets_of fr fs) = ap (λ (x : Report ℕ). x.value) put.0 in
    let text : octets_of fr fs ≡ take (report_of 0 w).value left = sym (ap (take (report_of 0 w).value) put.1 ∙ take_at (octets_of fr fs) (drop (length (octets_of fr fs)) out) (report_of 0 w).value (sym value)) in
    let ln : length ns ≡ 2 * length fs = ap length d.1.rows ∙ numbers_of_lem fs in
    let lb : length bs ≡ length (bodies_of fs) = ap length d.1.bodies in
    let back = (g.demand fr s.1).handed fs d.1.legal text (omega arith, omega arith) in (
      ap (λ (x : Report Summary). x.number) back.numbers,
      back.rows ∙ ap (λ (x : List ℕ). x ++ drop (2 * length fs) r) (sym d.1.rows) ∙ ap (λ (n : ℕ). ns ++ drop n r) (sym ln),
      back.bodies ∙ ap (λ (x : List ℕ). x ++ drop (length (bodies_of fs)) b) (sym d.1.bodies) ∙ ap (λ (n : ℕ). bs ++ drop n b) (sym lb),
    )

pub written_read : (ses : Session) (p r b r' b' : List ℕ) (a : Result Summary Refusal) → Reads ses p r b a r' b' → (report_of nothing a).number ≡ 0
    → (out left : List ℕ) (w : Result ℕ Refusal) → Writes ses (take (2 * (report_of nothing a).value.frames) r') (take (report_of nothing a).value.octets b') out w left
    → length p ≤ length out → (report_of 0 w ≡ accepted (length p)) × (left ≡ p ++ drop (length p) out)
written_read ses p r b r' b' a h z out left w g room =
    let t = legal_session ses (λ (m : Option Framing). (report_of nothing (read_in m p r b).answer).number) refl (ap (λ (x : Report Summary). x.number) (sym h.numbers) ∙ z) in
    let fr : Framing = t.0 in
    let demand = h.demand fr t.1 in
    let s = demand.accepted z in
    let fs : List Frame = s.0 in
    let back = demand.handed fs s.1 s.2 s.3 in
    let frames : (report_of nothing a).value.frames ≡ length fs = ap (λ (x : Report Summary). x.value.frames) back.numbers in
    let octets : (report_of nothing a).value.octets ≡ length (bodies_of fs) = ap (λ (x : Report Summary). x.value.octets) back.numbers in
    let rows : take (2 * (report_of nothing a).value.frames) r' ≡ numbers_of (rows_of fs) =
    ap (take (2 * (report_of nothing a).value.frames)) back.rows ∙ take_at (numbers_of (rows_of fs)) (drop (2 * length fs) r) (2 * (report_of nothing a).value.frames) (numbers_of_lem fs ∙ ap (λ (n : ℕ). 2 * n) (sym frames)) in
    let bodies : take (report_of nothing a).value.octets b' ≡ bodies_of fs =
    ap (take (report_of nothing a).value.octets) back.bodies ∙ take_at (bodies_of fs) (drop (length (bodies_of fs)) b) (report_of nothing a).value.octets (sym octets) in
    let d : Describe fr (take (2 * (report_of nothing a).value.frames) r') (take (report_of nothing a).value.octets b') fs = record { legal = s.1; rows = rows; bodies = bodies } in
    let l : length (octets_of fr fs) ≡ length p = ap length s.2 in
    let put = (g.exact fr t.1).written fs d (omega arith) in (
      put.0 ∙ ap accepted l,
      put.1 ∙ ap (λ (x : List ℕ). x ++ drop (length (octets_of fr fs)) out) s.2 ∙ ap (λ (n : ℕ). p ++ drop n out) l,
    )
