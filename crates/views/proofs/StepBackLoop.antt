-- What the loop that steps back over a payload's frames keeps, and that it comes to the frame of the row.
use mathlib.Core.Path.{◌≡◌, refl, sym, ap, ◌∙◌}
use mathlib.Core.List.{List, [], ◌∷◌, ◌++◌, append_assoc}
use Prim.Native.Nat.{ℕ, ◌+◌, ◌-◌, ◌≤◌, ◌<◌}
use native.Mathlib.Omega.{arith}
use lib.ListN.{length, take, length-append}
use Rattle.std.specs.Prelude.{Some, Ok}
use Rattle.std.specs.Result.{IsOk}
use Rattle.wire.specs.Frame.{Frame, Legal, octets_of, wire_octets}
use Rattle.wire.specs.Walk.{ending, read_of}
use Rattle.wire.specs.Answers.{shape_of, step_of}
use Rattle.wire.specs.declared.Framing.{Framing}
use Rattle.wire.specs.declared.Row.{Row}
use Rattle.wire.specs.declared.Shape.{Shape}
use Rattle.wire.proofs.Octets.{length_octets}
use Rattle.wire.proofs.Endings.{ending-take}
use Rattle.wire.proofs.FrameAtEnd.{EndsIn, ends_in_lem, Last, last_of}
use Rattle.views.specs.View.{span, augmentation_at, location_at, location_of}
use Rattle.views.specs.declared.Location.{Location}
use Rattle.views.proofs.RowLocation.{located}

-- u octets are unread, which the first n frames of a legal sequence give
pub record Unread (fr : Framing) (p : List ℕ) (n u : ℕ) : Type 0 where
  pub front : List Frame
  pub behind : List Frame
  pub legal : Legal fr (front ++ behind)
  pub gives : octets_of fr (front ++ behind) ≡ p
  pub octets : u ≡ length (octets_of fr front)
  pub frames : n ≡ length front

module _ (fr : Framing) (p : List ℕ) (n u : ℕ) (h : Unread fr p n u) where
  -- the last of the unread frames, whose shape is s: it is whole, others are unread before it, and where it stands is where row n - 1 does
  pub record Passed (s : Shape) : Type 0 where
    pub whole : s.wire ≤ u
    pub base : u - s.wire + s.entry.octets ≤ 1400
    pub before : Unread fr p (n - 1) (u - s.wire)
    pub here : (x : Location) → x ≡ record { frame = span (u - s.wire) s.wire; augmentation = augmentation_at (u - s.wire) s.entry s.tc } → Some x ≡ location_of (read_of fr p) (n - 1)

  module _ (w : Last h.front) where
    all : w.front ++ (w.frame ∷ h.behind) ≡ h.front ++ h.behind
    all = sym (append_assoc w.front (w.frame ∷ []) h.behind) ∙ ap (λ (gs : List Frame). gs ++ h.behind) (sym w.is)

    ends : EndsIn fr p u (length (octets_of fr w.front)) w.frame
    ends =
        let e = ends_in_lem fr w.front w.frame h.behind (rw all h.legal) in
        rw (h.octets, w.is, ← h.gives, ← all) e

    passed_at : Passed (shape_of fr w.frame.row)
    passed_at =
        let x : Row = w.frame.row in
        let e = ends in
        let legal : Legal fr (w.front ++ (w.frame ∷ h.behind)) = rw all h.legal in
        let gives : octets_of fr (w.front ++ (w.frame ∷ h.behind)) ≡ p = rw all h.gives in
        let start : u - wire_octets x ≡ length (octets_of fr w.front) = omega (arith, e.unread) in
        let frames : n - 1 ≡ length w.front = omega (arith, h.frames, ap length w.is, length-append w.front (w.frame ∷ [])) in
        record {
          whole = omega (arith, e.unread);
          base = omega (arith, e.unread, e.inside, length_octets fr (h.front ++ h.behind) h.legal.bodies, h.legal.rows.total, ap length h.gives);
          before = record { front = w.front; behind = w.frame ∷ h.behind; legal = legal; gives = gives; octets = start; frames = frames };
          here = λ y q.
              ap Some q
              ∙ ap (λ (a : ℕ). Some (location_at a x)) start
              ∙ sym (located fr p (n - 1) w.front w.frame (record { behind = h.behind; legal = legal; gives = gives; number = frames }));
        }

  module _ (some : 0 < n) where
    last : Last h.front
    last = last_of h.front (omega (arith, h.frames))

    pub unread_inside : u ≤ length p
    unread_inside = (ends last).inside

    -- the unread octets name it
    named : ending fr (take u p) (length (take u p)) ≡ Ok last.frame.row
    named = ending-take fr p u unread_inside ∙ (ends last).names

    pub unread_named : IsOk (ending fr (take u p) (length (take u p)))
    unread_named = rw named refl

    pub unread_passed : (s : Shape) → Ok s ≡ step_of fr (ending fr (take u p) (length (take u p))) → Passed s
    unread_passed s e =
        let q : Ok s ≡ Ok (shape_of fr last.frame.row) = e ∙ ap (step_of fr) named in
        let same : s ≡ shape_of fr last.frame.row = cc in
        rw same (passed_at last)
