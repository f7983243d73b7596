-- What `read` promises, where its code returns.
use mathlib.Core.Path.{◌≡◌, refl, sym, ap, ◌∙◌}
use mathlib.Core.List.{List}
use Prim.Native.Nat.{ℕ, ◌/◌, ◌≤◌, ◌<◌}
use native.Mathlib.Omega.{arith}
use lib.ListN.{length}
use Rattle.std.specs.Prelude.{Some, Result, Ok, Err}
use Rattle.refusal.specs.Report.{refusal, report_of}
use Rattle.refusal.specs.declared.Reason.TheVariants.{NumbersTooShort, OctetsTooShort, Unknown}
use Rattle.refusal.specs.declared.Refusal.{Refusal}
use Rattle.octets.specs.Octet.{Octets}
use Rattle.wire.specs.Frame.{framing_of, bodies_of}
use Rattle.wire.specs.Answers.{FramingKnown, Walks, summary_of, nothing}
use Rattle.wire.specs.declared.Session.{Session}
use Rattle.wire.specs.declared.Framing.{Framing}
use Rattle.wire.specs.declared.Summary.{Summary}
use Rattle.wire.proofs.Meaning.{Accepted, went, stopped}
use Rattle.wire.proofs.Sessions.{known_framing_lem, one_framing}
use Rattle.reader.specs.Reading.{Outcome, kept, handed_out, read_into}
use Rattle.reader.specs.Promise.{Reads}
use Rattle.reader.specs.Filling.{Fillable}
use Rattle.reader.proofs.Outcomes.{read_refused, read_few_numbers, read_few_octets, read_whole}
use Rattle.reader.proofs.Demands.{demand}

-- the session's framing is fr
module _ (ses : Session) (fr : Framing) (is : FramingKnown ses (Ok fr)) (p r b : List ℕ) (o : Octets p) where
  known : framing_of ses ≡ Some fr
  known = known_framing_lem ses (refusal Unknown 0) is.answer fr refl

  -- the answer and the lists are those of reading
  reads : {a : Result Summary Refusal} {r' b' : List ℕ} → a ≡ (read_into fr p r b).answer → r' ≡ (read_into fr p r b).rows → b' ≡ (read_into fr p r b).bodies → Reads ses p r b a r' b'
  reads ea er eb = record {
    answer = rw known ea;
    numbers = rw known (ap (report_of nothing) ea);
    rows = rw known er;
    bodies = rw known eb;
    demand = λ gr h. rw (one_framing ses known h, ea, er, eb) (demand fr p r b o);
  }

  refused : (x : Refusal) → read_into fr p r b ≡ kept r b x → Reads ses p r b (Err x) r b
  refused x e = let q = sym e in reads (ap (λ (y : Outcome). y.answer) q) (ap (λ (y : Outcome). y.rows) q) (ap (λ (y : Outcome). y.bodies) q)

  -- the walk's answer
  pub case_refused : (x : Refusal) → Walks fr p (Err x) → Reads ses p r b (Err x) r b
  case_refused x w = refused x (read_refused fr p r b (stopped fr p o w.answer x refl).reads)

  module _ (s : Summary) (w : Walks fr p (Ok s)) where
    abbrev a : Accepted fr p
    a = (went fr p o w.answer s refl).0

    holds : s ≡ summary_of a.fs
    holds = (went fr p o w.answer s refl).1

    frames : s.frames ≡ length a.fs
    frames = ap (λ (x : Summary). x.frames) holds

    octets : s.octets ≡ length (bodies_of a.fs)
    octets = ap (λ (x : Summary). x.octets) holds

    pub case_few_numbers : length r / 2 < s.frames → Reads ses p r b (Err (refusal NumbersTooShort s.frames)) r b
    case_few_numbers h = refused (refusal NumbersTooShort s.frames) (rw frames (read_few_numbers fr p r b a.reads (omega (arith, frames))))

    module _ (h : s.frames ≤ length r / 2) where
      pub case_few_octets : length b < s.octets → Reads ses p r b (Err (refusal OctetsTooShort s.octets)) r b
      case_few_octets l = refused (refusal OctetsTooShort s.octets) (rw octets (read_few_octets fr p r b a.reads (omega (arith, frames)) (omega (arith, octets))))

      module _ (l : s.octets ≤ length b) where
        pub case_fillable : Fillable fr p s (length r) (length b)
        case_fillable = record { fs = a.fs; legal = a.legal; gives = a.gives; holds = holds; rows = omega arith; bodies = l }

        pub case_read : {r' b' : List ℕ} → r' ≡ (read_into fr p r b).rows → b' ≡ (read_into fr p r b).bodies → Reads ses p r b (Ok s) r' b'
        case_read =
            let q : read_into fr p r b ≡ handed_out r b a.fs = read_whole fr p r b a.reads (omega (arith, frames)) (omega (arith, octets)) in
            reads (ap Ok holds ∙ ap (λ (x : Outcome). x.answer) (sym q))
