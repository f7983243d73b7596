-- The writer accepts exactly the rows and bodies of legal sequences for whose octets there is room, and writes those octets. Callers cite
-- the last part: what any answer that keeps the promise `Checks` or `Writes` says of legal sequences.
use mathlib.Core.Path.{◌≡◌, refl, sym, ap, ◌∙◌, subst}
use mathlib.Core.Bool.{not}
use mathlib.Core.List.{List, ◌++◌}
use Prim.Native.Nat.{ℕ, ◌+◌, ◌≤◌, ◌<◌}
use native.Mathlib.Omega.{arith}
use lib.Dec.{ltb, eqb}
use lib.ListN.{length, drop}
use borrow.Author.Tests.{lt-ltb, le-ltb, ltb-false, eq-eqb, eqb-true, not-false}
use Rattle.std.specs.Prelude.{Option, Some, None, Result, Ok, Err, ok_or}
use Rattle.refusal.specs.Report.{accepted, refusal, report_of}
use Rattle.refusal.specs.declared.Reason.TheVariants.{OctetsTooShort, Unknown, WrongLength}
use Rattle.refusal.specs.declared.Reason.{Reason}
use Rattle.refusal.specs.declared.Refusal.{Refusal}
use Rattle.refusal.proofs.NumberLaws.{number_of-least}
use Rattle.octets.specs.Octet.{Octets}
use Rattle.wire.specs.Frame.{framing_of, Frame, Legal, LegalRows, body_octets, sum_of, octets_of, rows_of, numbers_of, bodies_of}
use Rattle.wire.specs.declared.Session.{Session}
use Rattle.wire.specs.declared.Framing.{Framing}
use Rattle.wire.specs.declared.Framing.TheVariants.{Unframed}
use Rattle.wire.specs.declared.Row.{Row}
use Rattle.wire.proofs.Octets.{length_bodies}
use Rattle.wire.proofs.Sessions.{known_framing_lem, one_framing}
use Rattle.writer.specs.Rows.{Outcome, passed, refused, check_of}
use Rattle.writer.specs.Write.{frames_of, bad_end, refuse_end, room_for, bodies_and_room, write_of, octets_in, write_in, out_of}
use Rattle.writer.specs.Answers.{totals, row_check_of, writing_of, write_report}
use Rattle.writer.specs.Promise.{Checks, Describe, Exact, Writes}
use Rattle.writer.specs.declared.Totals.{Totals}
use Rattle.writer.proofs.Outcomes.{not_passed, refuse_passed, then_passed}
use Rattle.writer.proofs.RowSequences.{check_legal, checked_legal}
use Rattle.writer.proofs.WriteStages.{rows_sound}
use Rattle.writer.proofs.Frames.{frames_rows, frames_bodies, frames_back, frames_legal, ends_legal}

-- ---- a legal sequence is written

-- its own rows and bodies pass every check but that of the room
legal_described : (fr : Framing) (fs : List Frame) (room : ℕ) → Legal fr fs → write_of fr (numbers_of (rows_of fs)) (bodies_of fs) room ≡ room_for fr fs room
unfolding write_of
legal_described fr fs room l =
    rw (check_legal fr (rows_of fs) l.rows)
    (simp (eq-eqb (length (bodies_of fs)) (sum_of body_octets (rows_of fs)) (length_bodies fr fs l.bodies), frames_back fr fs l.bodies, ends_legal fr fs l.bodies 0))

described : (fr : Framing) (ns bs : List ℕ) (fs : List Frame) (room : ℕ) → Describe fr ns bs fs → write_of fr ns bs room ≡ room_for fr fs room
described fr ns bs fs room d =
    ap (λ (l : List ℕ). write_of fr l bs room) d.rows ∙ ap (λ (l : List ℕ). write_of fr (numbers_of (rows_of fs)) l room) d.bodies ∙ legal_described fr fs room d.legal

pub writes_described : (fr : Framing) (ns bs : List ℕ) (fs : List Frame) (room : ℕ) → Describe fr ns bs fs → length (octets_of fr fs) ≤ room → write_of fr ns bs room ≡ passed fs
writes_described fr ns bs fs room d h = described fr ns bs fs room d ∙ simp (le-ltb room (length (octets_of fr fs)) h)

-- where there is no room, that is the refusal
pub described_short : (fr : Framing) (ns bs : List ℕ) (fs : List Frame) (room : ℕ) → Describe fr ns bs fs → room < length (octets_of fr fs) → write_of fr ns bs room ≡ refused OctetsTooShort (length (octets_of fr fs))
described_short fr ns bs fs room d h = described fr ns bs fs room d ∙ simp (lt-ltb room (length (octets_of fr fs)) h)

-- ---- what is written

no_bad_end : {A : Type 0} (b : Option ℕ) (o : Outcome A) (x : A) → refuse_end b o ≡ passed x → (b ≡ None) × (o ≡ passed x)
no_bad_end (Some i) o x e = not_passed e
no_bad_end None o x e = (refl, e)

-- what is written are the octets of a legal sequence that the rows and bodies describe, and there is room
pub written_legal : (fr : Framing) (ns bs : List ℕ) (room : ℕ) (fs : List Frame) → Octets bs → write_of fr ns bs room ≡ passed fs → Describe fr ns bs fs × (length (octets_of fr fs) ≤ room)
unfolding write_of
written_legal fr ns bs room fs o e =
    let rows = then_passed (check_of fr ns) (λ ys. bodies_and_room fr ys bs room) fs e in
    let xs : List Row = rows.0 in
    let sum = refuse_passed (not (eqb (length bs) (sum_of body_octets xs))) WrongLength (sum_of body_octets xs) _ fs rows.2 in
    let ends = no_bad_end (bad_end fr 0 (frames_of xs bs)) (room_for fr (frames_of xs bs) room) fs sum.1 in
    let fits = refuse_passed (ltb room (length (octets_of fr (frames_of xs bs)))) OctetsTooShort (length (octets_of fr (frames_of xs bs))) (passed (frames_of xs bs)) fs ends.1 in
    let is : frames_of xs bs ≡ fs = (let p = fits.1 in cc) in
    let long : length bs ≡ sum_of body_octets xs = eqb-true (length bs) (sum_of body_octets xs) (not-false (eqb (length bs) (sum_of body_octets xs)) sum.0) in
    let legal = checked_legal fr ns xs rows.1 in
    let own : Describe fr ns bs (frames_of xs bs) = record {
      legal = record { rows = subst (LegalRows fr) (sym (frames_rows xs bs)) legal.1; bodies = frames_legal fr xs bs o (omega arith) 0 ends.0 };
      rows = legal.0 ∙ ap numbers_of (sym (frames_rows xs bs));
      bodies = sym (frames_bodies xs bs long);
    } in
    (subst (Describe fr ns bs) is own, omega (arith, ltb-false room (length (octets_of fr (frames_of xs bs))) fits.0, ap (λ (l : List Frame). length (octets_of fr l)) is))

-- rows and bodies describe one legal sequence at most
pub described_once : (fr : Framing) (ns bs : List ℕ) (fs gs : List Frame) → Describe fr ns bs fs → Describe fr ns bs gs → fs ≡ gs
described_once fr ns bs fs gs d e =
    let room : ℕ = length (octets_of fr fs) + length (octets_of fr gs) in
    let w : passed fs ≡ passed gs = sym (writes_described fr ns bs fs room d (omega arith)) ∙ writes_described fr ns bs gs room e (omega arith) in
    cc

-- ---- the promise

module _ (fr : Framing) (ns bs out : List ℕ) (o : Octets bs) where
  exact_at : (w : Outcome (List Frame)) → write_of fr ns bs (length out) ≡ w → Exact fr ns bs out (report_of 0 (writing_of (octets_in fr w))) (out_of (octets_in fr w) out)
  exact_at (passed fs) e = record {
    accepts = λ z. let d = written_legal fr ns bs (length out) fs o e in (fs, d.0, d.1);
    written = λ gs d h.
        let w : passed fs ≡ passed gs = sym e ∙ writes_described fr ns bs gs (length out) d h in
        let q : fs ≡ gs = cc in
        (ap (λ (l : List Frame). report_of 0 (writing_of (octets_in fr (passed l)))) q, ap (λ (l : List Frame). out_of (octets_in fr (passed l)) out) q);
    unique = described_once fr ns bs;
    unchanged = λ z. absurd (z refl);
  }
  exact_at (refused reason place) e = record {
    accepts = λ z. absurd (omega (arith, number_of-least reason));
    written = λ gs d l. not_passed (sym e ∙ writes_described fr ns bs gs (length out) d l);
    unique = described_once fr ns bs;
    unchanged = λ z. (refl, refl);
  }

  pub exact : Exact fr ns bs out (report_of 0 (writing_of (octets_in fr (write_of fr ns bs (length out))))) (out_of (octets_in fr (write_of fr ns bs (length out))) out)
  exact = exact_at (write_of fr ns bs (length out)) refl

numbers : (w : Outcome (List ℕ)) → report_of 0 (writing_of w) ≡ write_report w
numbers (passed os) = refl
numbers (refused reason place) = refl

-- in a session of this framing, as the code finds it
module _ (ses : Session) (ns bs out : List ℕ) {k : Result Framing Refusal} (is : k ≡ ok_or (framing_of ses) (refusal Unknown 0)) (o : Octets bs) (fr : Framing) (u : k ≡ Ok fr) where
  promised : {r : Result ℕ Refusal} {left : List ℕ} → r ≡ writing_of (octets_in fr (write_of fr ns bs (length out))) → left ≡ out_of (octets_in fr (write_of fr ns bs (length out))) out → Writes ses ns bs out r left
  promised a l =
      let s = known_framing_lem ses (refusal Unknown 0) is fr u in
      record {
        answer = rw s a;
        numbers = rw s (ap (report_of 0) a ∙ numbers (octets_in fr (write_of fr ns bs (length out))));
        leaves = rw s l;
        exact = λ g q. rw (one_framing ses s q, a, l) (exact fr ns bs out o);
      }

  pub refuses : {reason : Reason} {place : ℕ} → write_of fr ns bs (length out) ≡ refused reason place → {x : Refusal} → x ≡ refusal reason place → Writes ses ns bs out (Err x) out
  refuses e a = promised (rw e (ap Err a)) (rw e refl)

  pub writes : {fs : List Frame} → write_of fr ns bs (length out) ≡ passed fs → {m : ℕ} → length (octets_of fr fs) ≡ m → {left : List ℕ} → left ≡ out_of (passed (octets_of fr fs)) out → Writes ses ns bs out (Ok m) left
  writes e m l = promised (rw e (ap Ok (sym m))) (rw e l)

-- ---- for callers: what the promises say of an answer

module _ (ns : List ℕ) (r : Result Totals Refusal) (c : Checks ns r) where
  -- rows that are sound are those of a legal sequence
  pub checks_accepts : (t : Totals) → r ≡ Ok t → (xs : List Row) × LegalRows Unframed xs × (ns ≡ numbers_of xs) × (totals xs ≡ t)
  checks_accepts t e =
      let s = rows_sound (check_of Unframed ns) t (sym c.answer ∙ e) in
      let l = checked_legal Unframed ns s.0 s.1 in
      (s.0, l.1, l.0, s.2)

  -- and those of a legal sequence are sound
  pub checks_legal : (xs : List Row) → LegalRows Unframed xs → ns ≡ numbers_of xs → r ≡ Ok (totals xs)
  checks_legal xs l e = c.answer ∙ ap row_check_of (ap (check_of Unframed) e ∙ check_legal Unframed xs l)

module _ (ses : Session) (fr : Framing) (is : framing_of ses ≡ Some fr) (ns bs out : List ℕ) (r : Result ℕ Refusal) (left : List ℕ) (w : Writes ses ns bs out r left) where
  -- an accepted writing wrote a legal sequence
  pub writes_accepts : (m : ℕ) → r ≡ Ok m
      → (fs : List Frame) × Describe fr ns bs fs × (length (octets_of fr fs) ≡ m) × (m ≤ length out) × (left ≡ octets_of fr fs ++ drop m out)
  writes_accepts m e =
      let a = (w.exact fr is).accepts (ap (λ (x : Result ℕ Refusal). (report_of 0 x).number) e) in
      let fs : List Frame = a.0 in
      let p = (w.exact fr is).written fs a.1 a.2 in
      let n : length (octets_of fr fs) ≡ m = (let q : accepted m ≡ accepted (length (octets_of fr fs)) = sym (ap (report_of 0) e) ∙ p.0 in sym (λ i. (q i).value)) in
      (fs, a.1, n, omega (arith, a.2), p.1 ∙ ap (λ (k : ℕ). octets_of fr fs ++ drop k out) n)

  -- rows and bodies of a legal sequence are accepted where there is room, and its octets written
  pub writes_legal : (fs : List Frame) → Describe fr ns bs fs → length (octets_of fr fs) ≤ length out
      → (r ≡ Ok (length (octets_of fr fs))) × (left ≡ octets_of fr fs ++ drop (length (octets_of fr fs)) out)
  writes_legal fs d h = (
    w.answer ∙ ap (λ (k : Option Framing). writing_of (write_in k ns bs (length out))) is ∙ ap (λ (o : Outcome (List Frame)). writing_of (octets_in fr o)) (writes_described fr ns bs fs (length out) d h),
    ((w.exact fr is).written fs d h).1,
  )

-- the rows and bodies of a legal sequence describe it
pub describes : (fr : Framing) (fs : List Frame) → Legal fr fs → Describe fr (numbers_of (rows_of fs)) (bodies_of fs) fs
describes fr fs l = record { legal = l; rows = refl; bodies = refl }
