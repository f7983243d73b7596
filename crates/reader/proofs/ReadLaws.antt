-- For callers: what `Reads` says of a payload that was read, of one that was refused, and of the octets of a legal sequence.
use mathlib.Core.Path.{◌≡◌, refl, sym, ap, ◌∙◌}
use mathlib.Core.List.{List, [], ◌∷◌, ◌++◌}
use Prim.Native.Nat.{ℕ, ◌*◌}
use native.Mathlib.Omega.{arith}
use lib.ListN.{length, take, drop}
use lib.Seq.{take_at}
use Rattle.std.specs.Prelude.{Option, None, Some, Result, Ok, Err}
use Rattle.refusal.specs.Report.{Report}
use Rattle.refusal.specs.Numbers.{number_of}
use Rattle.refusal.specs.declared.Refusal.{Refusal}
use Rattle.wire.specs.Frame.{Frame, framing_of, Legal, octets_of, rows_of, numbers_of, bodies_of}
use Rattle.wire.specs.Answers.{summary_of}
use Rattle.wire.specs.declared.Session.{Session}
use Rattle.wire.specs.declared.Framing.{Framing}
use Rattle.wire.specs.declared.Row.{Row}
use Rattle.wire.specs.declared.Summary.{Summary}
use Rattle.refusal.proofs.NumberLaws.{number_of-least}
use Rattle.wire.proofs.Complete.{length_rows}
use Rattle.reader.specs.Reading.{Outcome}
use Rattle.reader.specs.Promise.{Room, Reads}
use Rattle.reader.proofs.Outcomes.{hands_out}

-- two numbers a row
pub length_numbers : (xs : List Row) → length (numbers_of xs) ≡ 2 * length xs
length_numbers [] = refl
length_numbers (x ∷ xs) = omega (arith, length_numbers xs)

-- the legal sequence fs gives p; r' and b' are r and b with its rows and bodies in the first places, as many as the summary s says
pub record WasRead (fr : Framing) (fs : List Frame) (p r b : List ℕ) (s : Summary) (r' b' : List ℕ) : Type 0 where
  pub legal : Legal fr fs
  pub gives : octets_of fr fs ≡ p
  pub room : Room fs r b
  pub summary : s ≡ summary_of fs
  pub rows : r' ≡ numbers_of (rows_of fs) ++ drop (2 * length fs) r
  pub bodies : b' ≡ bodies_of fs ++ drop (length (bodies_of fs)) b
  pub first_rows : take (2 * s.frames) r' ≡ numbers_of (rows_of fs)
  pub first_bodies : take s.octets b' ≡ bodies_of fs

module _ (ses : Session) {p r b r' b' : List ℕ} where
  -- in a session of known framing
  module _ (fr : Framing) (known : framing_of ses ≡ Some fr) where
    handed : {s : Summary} → Reads ses p r b (Ok s) r' b' → (fs : List Frame) → Legal fr fs → octets_of fr fs ≡ p → Room fs r b → WasRead fr fs p r b s r' b'
    handed {s} h fs l e room =
        let d = (h.demand fr known).handed fs l e room in
        let is : s ≡ summary_of fs = ap (λ (a : Report Summary). a.value) d.numbers in
        let n : length (numbers_of (rows_of fs)) ≡ 2 * s.frames = omega (arith, length_numbers (rows_of fs), length_rows fs, ap (λ (x : Summary). x.frames) is) in
        let m : length (bodies_of fs) ≡ s.octets = sym (ap (λ (x : Summary). x.octets) is) in
        record {
          legal = l;
          gives = e;
          room = room;
          summary = is;
          rows = d.rows;
          bodies = d.bodies;
          first_rows = ap (take (2 * s.frames)) d.rows ∙ take_at (numbers_of (rows_of fs)) (drop (2 * length fs) r) (2 * s.frames) n;
          first_bodies = ap (take s.octets) d.bodies ∙ take_at (bodies_of fs) (drop (length (bodies_of fs)) b) s.octets m;
        }

    -- what was read is a legal sequence
    pub was_read : {s : Summary} → Reads ses p r b (Ok s) r' b' → (fs : List Frame) × WasRead fr fs p r b s r' b'
    was_read h = let w = (h.demand fr known).accepted refl in (w.0, handed h w.0 w.1 w.2 w.3)

    answered : {a : Result Summary Refusal} → Reads ses p r b a r' b' → (fs : List Frame) → Legal fr fs → octets_of fr fs ≡ p → Room fs r b → a ≡ Ok (summary_of fs)
    answered h fs l e room = rw known at h.answer ∙ ap (λ (x : Outcome). x.answer) (hands_out fr p r b fs l e room)

    -- a legal sequence is read where there is room for it
    pub legal_read : {a : Result Summary Refusal} → Reads ses p r b a r' b' → (fs : List Frame) → Legal fr fs → octets_of fr fs ≡ p → Room fs r b
        → (a ≡ Ok (summary_of fs)) × WasRead fr fs p r b (summary_of fs) r' b'
    legal_read h fs l e room = let q = answered h fs l e room in (q, handed (rw q at h) fs l e room)

  -- in any session a refusal has a number, and changes nothing
  pub was_refused : {x : Refusal} → Reads ses p r b (Err x) r' b' → (number_of x.reason ≡ 0 → ⊥) × (r' ≡ r) × (b' ≡ b)
  was_refused {x} h = go (framing_of ses) refl
    where
      numbered : number_of x.reason ≡ 0 → ⊥
      numbered z = omega (arith, number_of-least x.reason)

      go : (f : Option Framing) → framing_of ses ≡ f → (number_of x.reason ≡ 0 → ⊥) × (r' ≡ r) × (b' ≡ b)
      go None q = (numbered, rw q at h.rows, rw q at h.bodies)
      go (Some fr) q = let u = (h.demand fr q).unchanged numbered in (numbered, u.rows, u.bodies)
