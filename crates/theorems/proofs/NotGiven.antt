-- Refusal 5 is no longer given.
use mathlib.Core.Path.{◌≡◌, refl, sym, ap, ◌∙◌}
use mathlib.Core.Bool.{Bool, true, false, cond}
use mathlib.Core.List.{List}
use Prim.Native.Nat.{ℕ, zero, suc, ◌/◌}
use native.Mathlib.Omega.{arith}
use lib.Dec.{ltb}
use lib.IntN.{ℤ, pos, neg_ℤ}
use lib.ListN.{length}
use Rattle.refusal.specs.Report.{Report, report_of}
use Rattle.std.specs.Prelude.{Result, Ok, Option, Some, Err, None}
use Rattle.refusal.specs.declared.Refusal.{Refusal}
use Rattle.refusal.specs.declared.Reason.TheVariants.{LongCountShortRange}
use Rattle.refusal.specs.declared.Reason.{Reason}
use Rattle.refusal.specs.Numbers.{number_of}
use Rattle.octets.specs.Octet.{Octets}
use Rattle.wire.specs.Frame.{Frame, framing_of, bodies_of}
use Rattle.wire.specs.Walk.{Walk, at, refused, read_of, ending}
use Rattle.wire.specs.Answers.{ending_report, walk_report, Identified, Walks, nothing}
use Rattle.wire.specs.declared.Session.{Session}
use Rattle.wire.specs.declared.Framing.{Framing}
use Rattle.wire.specs.declared.Framing.TheVariants.{Unframed}
use Rattle.wire.specs.declared.Summary.{Summary}
use Rattle.wire.proofs.Ranges.{in_range, end_in_range}
use Rattle.reader.specs.Reading.{few_numbers, few_octets, handed_out, outcome, read_in}
use Rattle.reader.specs.Promise.{Reads}
use Rattle.clock.specs.Time.{time_of, time_in, PacketTime, ticks_in}
use Rattle.clock.specs.declared.Ticks.{Ticks}
use Rattle.listing.specs.Line.{refused_word, line_with, payload_line}
use Rattle.listing.proofs.Distinct.{line_refusal}
use Rattle.moult.specs.Promises.{host_count, Counted}
use Rattle.wire.specs.declared.Row.{Row}

-- the walk does not come to it
not_five : (fr : Framing) (p : List ℕ) → Octets p → (n : Reason) (place : ℕ) (behind : List Frame) → read_of fr p ≡ refused n place behind → number_of n ≡ 5 → ⊥
not_five fr p o n place behind q = (in_range fr p n place behind o q).0.2

module _ (fr : Framing) (p : List ℕ) (o : Octets p) where
  pub end_not : (a : Result Row Reason) → Identified fr p a → (ending_report (length p) a).number ≡ 5 → ⊥
  end_not a i = go a i.answer
    where
      go : (e : Result Row Reason) → e ≡ ending fr p (length p) → (ending_report (length p) e).number ≡ 5 → ⊥
      go (Err n) q h = (end_in_range fr p (length p) n o (sym q)).2 h
      go (Ok x) q h = omega arith

  pub walk_not : (a : Result Summary Refusal) → Walks fr p a → (report_of nothing a).number ≡ 5 → ⊥
  walk_not a w h = go (read_of fr p) refl (ap (λ (x : Report Summary). x.number) (sym w.numbers) ∙ h)
    where
      go : (v : Walk) → read_of fr p ≡ v → (walk_report v).number ≡ 5 → ⊥
      go (at u fs) q e = omega arith
      go (refused n place behind) q e = not_five fr p o n place behind q e

module _ (ses : Session) (p : List ℕ) (o : Octets p) where
  pub reading_not : (r b r' b' : List ℕ) (a : Result Summary Refusal) → Reads ses p r b a r' b' → (report_of nothing a).number ≡ 5 → ⊥
  unfolding outcome
  reading_not r b r' b' a g h = told (framing_of ses) (ap (λ (x : Report Summary). x.number) (sym g.numbers) ∙ h)
    where
      room : (fs : List Frame) (c d : Bool) → (report_of nothing (cond c (few_numbers r b fs) (cond d (few_octets r b fs) (handed_out r b fs))).answer).number ≡ 5 → ⊥
      room fs true d e = omega arith
      room fs false true e = omega arith
      room fs false false e = omega arith

      go : (fr : Framing) (v : Walk) → read_of fr p ≡ v → (report_of nothing (outcome r b v).answer).number ≡ 5 → ⊥
      go fr (at u fs) q e = room fs (ltb (length r / 2) (length fs)) (ltb (length b) (length (bodies_of fs))) e
      go fr (refused n place behind) q e = not_five fr p o n place behind q e

      told : (m : Option Framing) → (report_of nothing (read_in m p r b).answer).number ≡ 5 → ⊥
      told None e = omega arith
      told (Some fr) e = go fr (read_of fr p) refl e

  pub time_not : (a : Result Ticks Refusal) → PacketTime ses p a → (report_of (ticks_in 0) a).number ≡ 5 → ⊥
  time_not a w h = told (framing_of ses) (ap (λ (x : Report Ticks). x.number) (sym w.numbers) ∙ h)
    where
      go : (fr : Framing) (v : Walk) → read_of fr p ≡ v → (report_of (ticks_in 0) (time_of v)).number ≡ 5 → ⊥
      go fr (at u fs) q e = omega arith
      go fr (refused n place behind) q e = not_five fr p o n place behind q e

      told : (m : Option Framing) → (report_of (ticks_in 0) (time_in m p)).number ≡ 5 → ⊥
      told None e = omega arith
      told (Some fr) e = go fr (read_of fr p) refl e

module _ (p : List ℕ) (o : Octets p) where
  pub count_not : (a : ℤ) → Counted p a → a ≡ neg_ℤ (pos 5) → ⊥
  unfolding host_count
  count_not a w h = go (read_of Unframed p) refl (sym w.answer ∙ h)
    where
      minus : (n : ℕ) → neg_ℤ (pos n) ≡ neg_ℤ (pos 5) → n ≡ 5
      minus zero e = absurd (let z : ◌≡◌ {A = ℕ} 0 1 = cc in omega arith)
      minus (suc n) e = let z : n ≡ 4 = cc in omega arith

      go : (v : Walk) → read_of Unframed p ≡ v → host_count v ≡ neg_ℤ (pos 5) → ⊥
      go (at u fs) q e = let z : ◌≡◌ {A = ℕ} 0 1 = cc in omega arith
      go (refused n place behind) q e = not_five Unframed p o n place behind q (minus (number_of n) e)

  pub line_not : (n m place : ℕ) → payload_line n p ≡ line_with m refused_word 5 place → ⊥
  line_not n m place e = let r = line_refusal p n m LongCountShortRange place e in not_five Unframed p o LongCountShortRange r.0 r.1 r.2 refl
