-- The walk hands back every legal sequence from the octets that it gives; so no two legal sequences give the same octets.
use mathlib.Core.Path.{◌≡◌, refl, sym, ap, ◌∙◌}
use mathlib.Core.List.{List, [], ◌∷◌, ◌++◌, append_assoc, append-nil}
use Prim.Native.Nat.{ℕ, zero, suc, ◌+◌, ◌-◌, ◌≤◌, ◌<◌}
use native.Mathlib.Omega.{arith}
use lib.Dec.{T}
use lib.ListN.{length, length-append}
use lib.Seq.{drop_at, take-append-le}
use borrow.Author.Tests.{le-ltb}
use Rattle.std.specs.Prelude.{Result}
use Rattle.refusal.specs.declared.Reason.{Reason}
use Rattle.wire.specs.Frame.{Frame, LegalRow, LegalBody, LegalBodies, agreed_rate, AgreedOn, base, rate, body_octets, wire_octets, wire, octets_of, rows_of, OfRate, Stands, Legal}
use Rattle.wire.specs.Walk.{last_frame, beside, rate_of, over, next, frame_at, run, read_of, at}
use Rattle.wire.specs.declared.Framing.{Framing, Framing}
use Rattle.wire.proofs.TableLaws.{bounds}
use Rattle.wire.proofs.Octets.{in_place, length-wire, wire_body, length_octets}
use Rattle.wire.proofs.Rates.{stands_agrees, beside_stands}
use Rattle.wire.proofs.NameLaws.{agrees}
use Rattle.wire.proofs.ReadBack.{InPlace, last_wire}
use Rattle.wire.specs.declared.Row.{Row}

pub length_rows : (fs : List Frame) → length (rows_of fs) ≡ length fs
length_rows [] = refl
length_rows (f ∷ fs) = ap suc (length_rows fs)

-- ---- a sequence, from its end

pub data Snoc : List Frame → Type 0 where
  none : Snoc []
  snoc : {gs : List Frame} → Snoc gs → (g : Frame) → Snoc (gs ++ (g ∷ []))

snoc-cons : (f : Frame) {gs : List Frame} → Snoc gs → Snoc (f ∷ gs)
snoc-cons f none = snoc none f
snoc-cons f (snoc v g) = snoc (snoc-cons f v) g

pub from_end : (fs : List Frame) → Snoc fs
from_end [] = none
from_end (f ∷ fs) = snoc-cons f (from_end fs)

module _ (fr : Framing) where
  -- ---- a frame

  pub next_at : (p : List ℕ) (u : ℕ) (behind : List Frame) → 1 ≤ u
      → next fr p (at u behind) ≡ over fr p u behind (beside (length behind) (rate_of (agreed_rate fr) (rows_of behind)) (last_frame fr p u))
  next_at p zero behind h = absurd (omega arith)
  next_at p (suc u) behind h = refl

  module _ (q rest : List ℕ) (f : Frame) (legal : LegalRow f.row) (body : LegalBody fr f.row f.body) (agree : T (agrees fr f.row.kind)) where
    placed : InPlace fr (q ++ (wire fr f ++ rest)) (length q + wire_octets f.row) (length q) f.row f.body
    placed = record {
      legal = legal;
      agrees = agree;
      size = body.size;
      end = body.end;
      unread = refl;
      reads = λ i h. in_place q (wire fr f) rest i (rw (length-wire fr f.row f.body body.size) h);
    }

    -- the frame is read back where its octets start
    back_body : (frame_at fr (q ++ (wire fr f ++ rest)) (length q) f.row).body ≡ f.body
    back_body =
        let b = bounds f.row.kind in
        let l : length (wire fr f) ≡ wire_octets f.row = length-wire fr f.row f.body body.size in
        let e : base f.row - 1 < length (wire fr f) = omega arith in
        rw (drop_at q (wire fr f ++ rest) (length q) refl, take-append-le (body_octets f.row) (wire fr f) rest (omega arith), in_place q (wire fr f) rest (base f.row - 1) e)
        (wire_body fr f.row f.body body.size)

    back : frame_at fr (q ++ (wire fr f ++ rest)) (length q) f.row ≡ f
    back = λ i. record { row = f.row; body = back_body i }

    one_frame : (r : ℕ) (behind : List Frame) → AgreedOn fr r → Stands r (rate f.row) (rows_of behind) → OfRate r (rows_of behind)
        → next fr (q ++ (wire fr f ++ rest)) (at (length q + wire_octets f.row) behind) ≡ at (length q) (f ∷ behind)
    one_frame r behind a s o =
        let b = bounds f.row.kind in
        let p : List ℕ = q ++ (wire fr f ++ rest) in
        let u : ℕ = length q + wire_octets f.row in
        let e : u - wire_octets f.row ≡ length q = omega arith in
        next_at p u behind (omega arith)
        ∙ ap (λ (x : Result Row Reason). over fr p u behind (beside (length behind) (rate_of (agreed_rate fr) (rows_of behind)) x)) (last_wire fr p u (length q) f.row f.body placed)
        ∙ ap (over fr p u behind) (rw length_rows at (beside_stands fr f.row (rows_of behind) r a s o))
        ∙ ap (λ (a : ℕ). at a (frame_at fr p a f.row ∷ behind)) e
        ∙ ap (λ (g : Frame). at (length q) (g ∷ behind)) back

  -- ---- a sequence

  pub octets_append : (fs gs : List Frame) → octets_of fr (fs ++ gs) ≡ octets_of fr fs ++ octets_of fr gs
  octets_append [] gs = refl
  octets_append (f ∷ fs) gs = rw (octets_append fs gs) (sym (append_assoc (wire fr f) (octets_of fr fs) (octets_of fr gs)))

  -- what holds of a frame in the middle
  pub record Middle (r : ℕ) (g : Frame) (behind : List Frame) : Type 0 where
    pub legal : LegalRow g.row
    pub agrees : T (agrees fr g.row.kind)
    pub body : LegalBody fr g.row g.body
    pub stands : Stands r (rate g.row) (rows_of behind)
    pub rated : OfRate r (rows_of behind)

  pub middle : (r : ℕ) → AgreedOn fr r → (gs : List Frame) (g : Frame) (behind : List Frame) → OfRate r (rows_of (gs ++ (g ∷ behind))) → LegalBodies fr (gs ++ (g ∷ behind)) → Middle r g behind
  middle r a [] g behind o b = record { legal = o.0; agrees = stands_agrees fr r g.row (rows_of behind) a o.1; body = b.0; stands = o.1; rated = o.2 }
  middle r a (f ∷ gs) g behind o b = middle r a gs g behind o.2 b.1

  pub stay : (n : ℕ) (p : List ℕ) (fs : List Frame) → run fr n p (at 0 fs) ≡ at 0 fs
  stay zero p fs = refl
  stay (suc n) p fs = stay n p fs

  pub octets_snoc : (gs : List Frame) (g : Frame) → octets_of fr (gs ++ (g ∷ [])) ≡ octets_of fr gs ++ wire fr g
  octets_snoc gs g = octets_append gs (g ∷ []) ∙ ap (λ (w : List ℕ). octets_of fr gs ++ w) (append-nil (wire fr g))

  length-snoc : (gs : List Frame) (g : Frame) → LegalBody fr g.row g.body → length (octets_of fr (gs ++ (g ∷ []))) ≡ length (octets_of fr gs) + wire_octets g.row
  length-snoc gs g h = rw (octets_snoc gs g) (simp (length-append (octets_of fr gs) (wire fr g), length-wire fr g.row g.body h.size))

  walked : {fs : List Frame} → Snoc fs → (n : ℕ) (p rest : List ℕ) (behind : List Frame) (r : ℕ)
      → p ≡ octets_of fr fs ++ rest → length (octets_of fr fs) ≤ n → AgreedOn fr r → OfRate r (rows_of (fs ++ behind)) → LegalBodies fr (fs ++ behind)
      → run fr n p (at (length (octets_of fr fs)) behind) ≡ at 0 (fs ++ behind)
  walked none n p rest behind r e l a o b = stay n p behind
  walked (snoc {gs} v g) zero p rest behind r e l a o b =
      let m = middle r a gs g behind (rw append_assoc at o) (rw append_assoc at b) in
      let w = bounds g.row.kind in
      absurd (omega (arith, length-snoc gs g m.body))
  walked (snoc {gs} v g) (suc n) p rest behind r e l a o b =
      let o₂ : OfRate r (rows_of (gs ++ (g ∷ behind))) = rw append_assoc at o in
      let b₂ : LegalBodies fr (gs ++ (g ∷ behind)) = rw append_assoc at b in
      let m = middle r a gs g behind o₂ b₂ in
      let w = bounds g.row.kind in
      let len = length-snoc gs g m.body in
      let e₂ : p ≡ octets_of fr gs ++ (wire fr g ++ rest) =
      e ∙ ap (λ (w : List ℕ). w ++ rest) (octets_snoc gs g) ∙ append_assoc (octets_of fr gs) (wire fr g) rest in
      let step : next fr p (at (length (octets_of fr (gs ++ (g ∷ [])))) behind) ≡ at (length (octets_of fr gs)) (g ∷ behind) =
      rw (e₂, len) (one_frame (octets_of fr gs) rest g m.legal m.body m.agrees r behind a m.stands m.rated) in
      ap (run fr n p) step
      ∙ walked v n p (wire fr g ++ rest) (g ∷ behind) r e₂ (omega arith) a o₂ b₂
      ∙ ap (at 0) (sym (append_assoc gs (g ∷ []) behind))

  pub complete : (fs : List Frame) → Legal fr fs → read_of fr (octets_of fr fs) ≡ at 0 fs
  unfolding read_of
  complete fs l =
      simp (le-ltb 1400 (length (octets_of fr fs)) (omega (arith, length_octets fr fs l.bodies, l.rows.total)))
      (walked (from_end fs) (length (octets_of fr fs)) (octets_of fr fs) [] [] l.rows.common (sym (append-nil (octets_of fr fs))) (omega arith) l.rows.agreed (rw append-nil l.rows.rated) (rw append-nil l.bodies)
      ∙ ap (at 0) (append-nil fs))

  pub unique : (fs gs : List Frame) → Legal fr fs → Legal fr gs → octets_of fr fs ≡ octets_of fr gs → fs ≡ gs
  unique fs gs hf hg e =
      let same : at 0 fs ≡ at 0 gs = sym (complete fs hf) ∙ ap (read_of fr) e ∙ complete gs hg in
      cc
