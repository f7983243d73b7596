-- One value of each statement of specs/Sessions.antt.
use mathlib.Core.Path.{◌≡◌, refl, ap, ◌∙◌}
use mathlib.Core.Logic.{◌⊎◌, inl, inr}
use mathlib.Core.List.{[]}
use Prim.Native.Nat.{ℕ, ◌≤◌, ◌<◌}
use native.Mathlib.Omega.{arith}
use native.Mathlib.Nat.{add-zero}
use lib.ListN.{length}
use borrow.Author.Tests.{lt-ltb, le-ltb, ne_eqb}
use Rattle.std.specs.Prelude.{Option, Some, None}
use Rattle.refusal.specs.Report.{report_of}
use Rattle.octets.specs.Part.{Part, empty_part}
use Rattle.octets.proofs.Order.{below_or}
use Rattle.wire.specs.Frame.{framing_of}
use Rattle.wire.specs.Walk.{named}
use Rattle.wire.specs.declared.Session.{Session}
use Rattle.wire.specs.declared.Session.TheVariants.{Agreed}
use Rattle.wire.specs.declared.Framing.{Framing}
use Rattle.wire.specs.declared.Framing.TheVariants.{Unframed}
use Rattle.reader.specs.Reading.{read_in}
use Rattle.reader.proofs.Bench.{session_bench}
use Rattle.writer.specs.Answers.{write_report}
use Rattle.writer.specs.Write.{write_in, out_of}
use Rattle.writer.proofs.SessionExamples.{unframed_mixed}
use Rattle.clock.specs.Time.{time_in, ticks_in}
use Rattle.views.specs.View.{empty_span, part_at, location_by, augmentation_of, frame_or}
use Rattle.theorems.specs.Sessions.{named_by_range, NotAgreedIsAsBefore, OtherRate, OtherRateIsRefused, SessionPayloads}
use Rattle.wire.specs.Answers.{nothing}

-- ---- not agreed

by_range : (x : ℕ) → named Unframed x ≡ named_by_range x
unfolding named
by_range x = go (below_or x 64) (below_or x 128)
  where
    go : (x < 64) ⊎ (64 ≤ x) → (x < 128) ⊎ (128 ≤ x) → named Unframed x ≡ named_by_range x
    go (inl h) w = simp (lt-ltb x 64 h, lt-ltb x 128 (omega arith))
    go (inr h) (inl w) = simp (le-ltb x 64 h, lt-ltb x 128 w)
    go (inr h) (inr w) = simp (le-ltb x 64 h, le-ltb x 128 w)

pub not_agreed_is_as_before : NotAgreedIsAsBefore
not_agreed_is_as_before = record {
  framing = refl;
  entry = λ e. refl;
  octets = λ x b. refl;
  body = λ x b l e o. record { size = l; end = e; octets = o };
  end = λ x b l. l.end;
  rows = λ xs r o t. record { common = r; agreed = inl refl; rated = o; total = t };
  named = by_range;
  walk = λ p u behind. refl;
  mixed = unframed_mixed;
}

-- ---- any other agreed rate

no_framing : (rate : ℕ) → OtherRate rate → framing_of (Agreed rate) ≡ None
no_framing rate h = simp (ne_eqb rate 2400 h.0, ne_eqb rate 600 h.1)

at_start : {A : Type 0} (p : Part A) → part_at empty_span p ≡ empty_part p
at_start p = ap (λ (n : ℕ). record { block = p.block; start = n; octets = [] }) (add-zero p.start)

pub other_rate_is_refused : OtherRateIsRefused
other_rate_is_refused = record {
  reading = λ rate h p r b r' b' a g.
      let q = no_framing rate h in (
        g.numbers ∙ ap (λ (m : Option Framing). report_of nothing (read_in m p r b).answer) q,
        g.rows ∙ ap (λ (m : Option Framing). (read_in m p r b).rows) q,
        g.bodies ∙ ap (λ (m : Option Framing). (read_in m p r b).bodies) q,
      );
  writing = λ rate h ns bs out left w g.
      let q = no_framing rate h in (
        g.numbers ∙ ap (λ (m : Option Framing). write_report (write_in m ns bs (length out))) q,
        g.leaves ∙ ap (λ (m : Option Framing). out_of (write_in m ns bs (length out)) out) q,
      );
  time = λ rate h p a g. g.numbers ∙ ap (λ (m : Option Framing). report_of (ticks_in 0) (time_in m p)) (no_framing rate h);
  location = λ rate h p row a g. g.answer ∙ ap (λ (m : Option Framing). location_by m p row) (no_framing rate h);
  augmentation = λ rate h row p v g. g.answer ∙ ap (λ (m : Option Framing). augmentation_of (location_by m p.octets row) p) (no_framing rate h) ∙ at_start p;
  frame = λ rate h row p s v g. g.answer ∙ ap (λ (m : Option Framing). frame_or (location_by m p.octets row) p s) (no_framing rate h);
}

pub session_payloads : SessionPayloads
session_payloads = session_bench

-- ---- legal sessions

-- a call whose number is 0 was in a legal session: in any other it is 12
pub legal_session : (ses : Session) (number : Option Framing → ℕ) → number None ≡ 12 → number (framing_of ses) ≡ 0 → (fr : Framing) × (framing_of ses ≡ Some fr)
legal_session ses number u z = go (framing_of ses) refl z
  where
    go : (m : Option Framing) → framing_of ses ≡ m → number m ≡ 0 → (fr : Framing) × (framing_of ses ≡ Some fr)
    go None q e = absurd (omega (arith, u))
    go (Some fr) q e = (fr, q)
