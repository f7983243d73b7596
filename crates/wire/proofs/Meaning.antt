-- What an answer of the walk says of the payload, by cases: for all who ask it.
use mathlib.Core.Path.{◌≡◌, refl, sym, ap, ◌∙◌, subst}
use mathlib.Core.List.{List, [], ◌∷◌}
use Prim.Native.Nat.{ℕ, zero, suc, ◌*◌, ◌≤◌}
use native.Mathlib.Omega.{arith}
use lib.ListN.{length}
use Rattle.refusal.specs.Report.{refusal, refusal}
use Rattle.refusal.specs.declared.Refusal.{Refusal, Refusal}
use Rattle.std.specs.Prelude.{Result, Ok, Err}
use Rattle.refusal.specs.declared.Reason.{Reason}
use Rattle.refusal.specs.Numbers.{number_of}
use Rattle.octets.specs.Octet.{Octets}
use Rattle.wire.specs.Frame.{Frame, Legal, octets_of, rows_of, rate, ticks, body_octets, wire_octets, sum_of}
use Rattle.wire.specs.Walk.{Walk, at, refused, read_of}
use Rattle.wire.specs.Answers.{walked_of, summary_of}
use Rattle.wire.specs.declared.Framing.{Framing, Framing}
use Rattle.wire.specs.declared.Row.{Row, Row}
use Rattle.wire.specs.declared.Summary.{Summary, Summary}
use Rattle.wire.proofs.Rates.{ticks_most}
use Rattle.wire.proofs.Octets.{length_bodies}
use Rattle.wire.proofs.WholeFrame.{Numbered}
use Rattle.wire.proofs.Complete.{complete, length_rows}
use Rattle.wire.proofs.Sound.{sound, Ended, read_ends}
use Rattle.wire.proofs.Ranges.{in_range, frames_most}

-- ---- how large its numbers are

body_in_wire : (xs : List Row) → sum_of body_octets xs ≤ sum_of wire_octets xs
body_in_wire [] = omega arith
body_in_wire (x ∷ xs) = omega (arith, body_in_wire xs)

ticks_in_rows : (xs : List Row) → sum_of ticks xs ≤ 720 * length xs
ticks_in_rows [] = omega arith
ticks_in_rows (x ∷ xs) = omega (arith, ticks_in_rows xs, ticks_most (rate x))

-- a legal sequence has at most 200 frames, 1,400 octets in their bodies and 144,000 ticks
pub record Small (s : Summary) : Type 0 where
  pub frames : s.frames ≤ 200
  pub octets : s.octets ≤ 1400
  pub ticks : s.ticks ≤ 144000

-- ---- what it says of the payload

pub differ : {n : Reason} {place u : ℕ} {behind fs : List Frame} → refused n place behind ≡ at u fs → ⊥
differ e = let z : ◌≡◌ {A = ℕ} 0 1 = cc in omega arith

module _ (fr : Framing) where
  -- a legal sequence that gives the payload is what the walk reads
  pub reads_it : (p : List ℕ) (fs : List Frame) → Legal fr fs → octets_of fr fs ≡ p → read_of fr p ≡ at 0 fs
  reads_it p fs l e = ap (read_of fr) (sym e) ∙ complete fr fs l

  -- no legal sequence gives a payload that the walk refuses
  pub none_gives : (p : List ℕ) {n : Reason} {place : ℕ} {behind : List Frame} → read_of fr p ≡ refused n place behind → (fs : List Frame) → Legal fr fs → octets_of fr fs ≡ p → ⊥
  none_gives p q fs l e = differ (sym q ∙ reads_it p fs l e)

  -- a payload that the legal sequence fs gives
  pub record Accepted (p : List ℕ) : Type 0 where
    pub fs : List Frame
    pub reads : read_of fr p ≡ at 0 fs
    pub legal : Legal fr fs
    pub gives : octets_of fr fs ≡ p

  -- a payload that the walk refuses, by the refusal x
  pub record Denied (p : List ℕ) (x : Refusal) : Type 0 where
    pub behind : List Frame
    pub reads : read_of fr p ≡ refused x.reason x.place behind
    pub range : Numbered (number_of x.reason) × (1 ≤ x.place) × (x.place ≤ 1400)

  -- what a walk came to
  pub data Meaning (p : List ℕ) : Walk → Type 0 where
    accepted : (a : Accepted p) → Meaning p (at 0 a.fs)
    denied : (x : Refusal) (d : Denied p x) → Meaning p (refused x.reason x.place d.behind)

  pub meaning : (p : List ℕ) → Octets p → Meaning p (read_of fr p)
  meaning p o = go (read_of fr p) refl (read_ends fr p)
    where
      go : (w : Walk) → read_of fr p ≡ w → Ended w → Meaning p w
      go (refused n place behind) q h = denied (refusal n place) (record { behind = behind; reads = q; range = in_range fr p n place behind o q })
      go (at (suc u) fs) q h = absurd h
      go (at zero fs) q h = let w = sound fr p fs o q in accepted (record { fs = fs; reads = q; legal = w.0; gives = w.1 })

  -- ---- the walk's answer

  module _ (p : List ℕ) (o : Octets p) {s : Result Summary Refusal} (is : s ≡ walked_of (read_of fr p)) where
    pub went : (x : Summary) → s ≡ Ok x → (a : Accepted p) × (x ≡ summary_of a.fs)
    went x e = go (meaning p o) (sym is ∙ e)
      where
        go : {w : Walk} → Meaning p w → walked_of w ≡ Ok x → (a : Accepted p) × (x ≡ summary_of a.fs)
        go (accepted a) q = let f : summary_of a.fs ≡ x = cc in (a, sym f)
        go (denied y d) q = absurd (let z : ◌≡◌ {A = ℕ} 0 1 = cc in omega arith)

    pub stopped : (x : Refusal) → s ≡ Err x → Denied p x
    stopped x e = go (meaning p o) (sym is ∙ e)
      where
        go : {w : Walk} → Meaning p w → walked_of w ≡ Err x → Denied p x
        go (accepted a) q = absurd (let z : ◌≡◌ {A = ℕ} 0 1 = cc in omega arith)
        go (denied y d) q = let f : y ≡ x = cc in subst (Denied p) f d

  pub small : (fs : List Frame) → Legal fr fs → Small (summary_of fs)
  small fs l =
      let f = frames_most fr fs l in
      record {
        frames = f;
        octets = omega (arith, length_bodies fr fs l.bodies, body_in_wire (rows_of fs), l.rows.total);
        ticks = omega (arith, ticks_in_rows (rows_of fs), length_rows fs);
      }
