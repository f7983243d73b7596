-- The demand holds of the definition of reading.
use mathlib.Core.Path.{◌≡◌, refl, sym, ap, ◌∙◌}
use mathlib.Core.Logic.{◌⊎◌, inl, inr}
use mathlib.Core.List.{List, [], ◌∷◌}
use Prim.Native.Nat.{ℕ, ◌/◌, ◌≤◌, ◌<◌}
use native.Mathlib.Omega.{arith}
use lib.ListN.{length}
use Rattle.std.specs.Prelude.{Ok, Err}
use Rattle.refusal.specs.Report.{refusal, report_of}
use Rattle.refusal.specs.declared.Reason.TheVariants.{NumbersTooShort, OctetsTooShort}
use Rattle.refusal.specs.declared.Refusal.{Refusal}
use Rattle.octets.specs.Octet.{Octets}
use Rattle.wire.specs.Frame.{Frame, agreed_rate, Legal, octets_of, bodies_of}
use Rattle.wire.specs.Walk.{Walk}
use Rattle.wire.specs.Answers.{summary_of, nothing}
use Rattle.wire.specs.declared.Framing.{Framing}
use Rattle.refusal.proofs.NumberLaws.{number_of-least}
use Rattle.octets.proofs.Order.{below_or}
use Rattle.wire.proofs.Complete.{unique}
use Rattle.wire.proofs.Ranges.{frames_most}
use Rattle.wire.proofs.Meaning.{Accepted, Meaning, accepted, denied, meaning}
use Rattle.reader.specs.Reading.{Outcome, kept, handed_out, read_into}
use Rattle.reader.specs.Promise.{Room, HandedBack, Demand}
use Rattle.reader.proofs.Outcomes.{read_refused, read_few_numbers, read_few_octets, hands_out}

module _ (fr : Framing) (p r b : List ℕ) where
  -- a reading hands out a legal sequence, or refuses
  pub data Verdict (x : Outcome) : Type 0 where
    out : (fs : List Frame) → Legal fr fs → octets_of fr fs ≡ p → Room fs r b → x ≡ handed_out r b fs → Verdict x
    no : (y : Refusal) → x ≡ kept r b y → Verdict x

  pub verdict : Octets p → Verdict (read_into fr p r b)
  verdict o = go (meaning fr p o)
    where
      room : (a : Accepted fr p) → (length r / 2 < length a.fs) ⊎ (length a.fs ≤ length r / 2)
          → (length b < length (bodies_of a.fs)) ⊎ (length (bodies_of a.fs) ≤ length b) → Verdict (read_into fr p r b)
      room a (inl x) y = no (refusal NumbersTooShort (length a.fs)) (read_few_numbers fr p r b a.reads x)
      room a (inr x) (inl y) = no (refusal OctetsTooShort (length (bodies_of a.fs))) (read_few_octets fr p r b a.reads x y)
      room a (inr x) (inr y) = let h : Room a.fs r b = (omega arith, y) in out a.fs a.legal a.gives h (hands_out fr p r b a.fs a.legal a.gives h)

      go : {w : Walk} → Meaning fr p w → Verdict (read_into fr p r b)
      go (denied x d) = no x (read_refused fr p r b d.reads)
      go (accepted a) = room a (below_or (length r / 2) (length a.fs)) (below_or (length b) (length (bodies_of a.fs)))

  abbrev Holds : Outcome → Type 0
  Holds x = Demand fr p r b (report_of nothing x.answer) x.rows x.bodies

  only : (fs gs : List Frame) → Legal fr fs → Legal fr gs → octets_of fr fs ≡ p → octets_of fr gs ≡ p → fs ≡ gs
  only fs gs hf hg ef eg = unique fr fs gs hf hg (ef ∙ sym eg)

  none_empty : (fs : List Frame) → octets_of fr fs ≡ p → length fs ≡ 0 → p ≡ []
  none_empty [] e z = sym e
  none_empty (f ∷ fs) e z = absurd (omega arith)

  back : (fs gs : List Frame) → gs ≡ fs → HandedBack gs r b (report_of nothing (Ok (summary_of fs))) (handed_out r b fs).rows (handed_out r b fs).bodies
  back fs gs e = rw e (record { numbers = refl; rows = refl; bodies = refl })

  -- the empty sequence is legal, and every list has room for it
  empty_legal : Legal fr []
  empty_legal = record { rows = record { common = agreed_rate fr; agreed = inr refl; rated = tt; total = omega arith }; bodies = tt }

  empty_room : Room [] r b
  empty_room = (omega arith, omega arith)

  accepted_demand : (fs : List Frame) → Legal fr fs → octets_of fr fs ≡ p → Room fs r b → Holds (handed_out r b fs)
  accepted_demand fs l e h = record {
    refused = λ n. absurd (n refl);
    accepted = λ z. (fs, l, e, h);
    handed = λ gs lg eg hg. back fs gs (only gs fs lg l eg e);
    unique = only;
    unchanged = λ n. absurd (n refl);
    most = frames_most fr fs l;
    empty = λ q. (refl, ap length (only fs [] l empty_legal e (sym q)));
    only_empty = λ z s. none_empty fs e s;
  }

  refused_demand : (y : Refusal) → ((fs : List Frame) → Legal fr fs → octets_of fr fs ≡ p → Room fs r b → ⊥) → Holds (kept r b y)
  refused_demand y none = record {
    refused = λ z. none;
    accepted = λ z. absurd (omega (arith, number_of-least y.reason));
    handed = λ fs l e s. absurd (none fs l e s);
    unique = only;
    unchanged = λ z. record { value = refl; rows = refl; bodies = refl };
    most = omega arith;
    empty = λ q. absurd (none [] empty_legal (sym q) empty_room);
    only_empty = λ z. absurd (omega (arith, number_of-least y.reason));
  }

  pub demand : Octets p → Holds (read_into fr p r b)
  demand o = go (verdict o)
    where
      go : Verdict (read_into fr p r b) → Holds (read_into fr p r b)
      go (out fs l e h q) = rw q (accepted_demand fs l e h)
      go (no y q) =
          rw q (refused_demand y (λ fs l e s.
          let c : Err y ≡ Ok (summary_of fs) = ap (λ (x : Outcome). x.answer) (sym q ∙ hands_out fr p r b fs l e s) in
          let z : ◌≡◌ {A = ℕ} 0 1 = cc in omega arith))
