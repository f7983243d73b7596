-- What each stage of the writer hands on, and what it answers where it refuses.
use mathlib.Core.Path.{◌≡◌, refl, sym, ap, ◌∙◌}
use mathlib.Core.List.{List}
use Prim.Native.Nat.{ℕ, ◌≤◌, ◌<◌}
use native.Mathlib.Omega.{arith}
use lib.ListN.{length}
use borrow.Author.Tests.{lt-ltb, le-ltb, eq-eqb, ne_eqb}
use Rattle.std.specs.Prelude.{Option, Some, None, Ok, Err}
use Rattle.refusal.specs.Report.{refusal}
use Rattle.refusal.specs.declared.Reason.TheVariants.{ReservedBits, OctetsTooShort, WrongLength}
use Rattle.refusal.specs.declared.Refusal.{Refusal}
use Rattle.wire.specs.Frame.{octets_of, body_octets, wire_octets, sum_of}
use Rattle.wire.specs.declared.Framing.{Framing}
use Rattle.wire.specs.declared.Row.{Row}
use Rattle.writer.specs.Rows.{Outcome, passed, refused, and_then, check_of}
use Rattle.writer.specs.Write.{frames_of, bad_end, refuse_end, room_for, bodies_and_room, write_of}
use Rattle.writer.specs.Answers.{totals, row_check_of}
use Rattle.writer.specs.Stages.{InOrder, Ready}
use Rattle.writer.specs.declared.Totals.{Totals}
use Rattle.writer.proofs.Frames.{frames_octets}

none : (o : Option ℕ) → ((i : ℕ) → o ≡ Some i → ⊥) → o ≡ None
none None h = refl
none (Some i) h = absurd (h i refl)

-- ---- behind the checks of the rows

rows_refused : (o : Outcome (List Row)) (x : Refusal) → row_check_of o ≡ Err x → o ≡ refused x.reason x.place
rows_refused (passed xs) x e = absurd cc
rows_refused (refused reason place) x e =
    let q : refusal reason place ≡ x = cc in
    λ i. refused (q i).reason (q i).place

pub write_refused : (fr : Framing) (ns bs : List ℕ) (room : ℕ) (x : Refusal) → row_check_of (check_of fr ns) ≡ Err x → write_of fr ns bs room ≡ refused x.reason x.place
unfolding write_of
write_refused fr ns bs room x e = rw (rows_refused (check_of fr ns) x e)

-- the rows that were passed, and their totals
pub rows_sound : (o : Outcome (List Row)) (t : Totals) → row_check_of o ≡ Ok t → (xs : List Row) × (o ≡ passed xs) × (totals xs ≡ t)
rows_sound (passed xs) t e = (xs, refl, cc)
rows_sound (refused reason place) t e = absurd cc

by_bodies : (fr : Framing) (ns bs : List ℕ) (room : ℕ) (xs : List Row) → check_of fr ns ≡ passed xs → write_of fr ns bs room ≡ bodies_and_room fr xs bs room
unfolding write_of
by_bodies fr ns bs room xs e = ap (λ (o : Outcome (List Row)). and_then o (λ ys. bodies_and_room fr ys bs room)) e

by_ends : (fr : Framing) (ns bs : List ℕ) (room : ℕ) (xs : List Row) → InOrder fr ns (length bs) xs → write_of fr ns bs room ≡ refuse_end (bad_end fr 0 (frames_of xs bs)) (room_for fr (frames_of xs bs) room)
by_ends fr ns bs room xs a = by_bodies fr ns bs room xs a.checked ∙ simp (eq-eqb (length bs) (sum_of body_octets xs) a.bodies)

module _ (fr : Framing) (ns bs : List ℕ) (t : Totals) (e : row_check_of (check_of fr ns) ≡ Ok t) where
  xs : List Row
  xs = (rows_sound (check_of fr ns) t e).0

  checked : check_of fr ns ≡ passed xs
  unfolding xs
  checked = (rows_sound (check_of fr ns) t e).1

  sum : t.bodies ≡ sum_of body_octets xs
  unfolding xs
  sum = sym (ap (λ (s : Totals). s.bodies) (rows_sound (check_of fr ns) t e).2)

  wire : t.wire ≡ sum_of wire_octets xs
  unfolding xs
  wire = sym (ap (λ (s : Totals). s.wire) (rows_sound (check_of fr ns) t e).2)

  pub length_wrong : (room : ℕ) → (length bs ≡ t.bodies → ⊥) → write_of fr ns bs room ≡ refused WrongLength t.bodies
  length_wrong room n = by_bodies fr ns bs room xs checked ∙ simp (ne_eqb (length bs) (sum_of body_octets xs) (λ q. n (q ∙ sym sum))) (ap (refused WrongLength) (sym sum))

  module _ (l : length bs ≡ t.bodies) where
    ordered : InOrder fr ns (length bs) xs
    ordered = record { checked = checked; bodies = l ∙ sum }

    -- what was found of the ends
    module _ {f : Option ℕ} (q : (ys : List Row) → check_of fr ns ≡ passed ys → f ≡ bad_end fr 0 (frames_of ys bs)) where
      found : f ≡ bad_end fr 0 (frames_of xs bs)
      found = q xs checked

      pub end_bad : (room i : ℕ) → f ≡ Some i → write_of fr ns bs room ≡ refused ReservedBits i
      end_bad room i a = by_ends fr ns bs room xs ordered ∙ ap (λ (b : Option ℕ). refuse_end b (room_for fr (frames_of xs bs) room)) (sym found ∙ a)

      pub ends_good : ((i : ℕ) → f ≡ Some i → ⊥) → (ys : List Row) × Ready fr ns bs ys × (t.wire ≡ sum_of wire_octets ys)
      ends_good a = (xs, record { rows = ordered; ends = sym found ∙ none f a }, wire)

-- ---- with every body end good

module _ (fr : Framing) (ns bs : List ℕ) (xs : List Row) (ready : Ready fr ns bs xs) (w : ℕ) (wire : w ≡ sum_of wire_octets xs) (room : ℕ) where
  pub long : length (octets_of fr (frames_of xs bs)) ≡ w
  long = frames_octets fr xs bs (omega (arith, ready.rows.bodies)) ∙ sym wire

  by_room : write_of fr ns bs room ≡ room_for fr (frames_of xs bs) room
  by_room = by_ends fr ns bs room xs ready.rows ∙ ap (λ (b : Option ℕ). refuse_end b (room_for fr (frames_of xs bs) room)) ready.ends

  pub room_short : room < w → write_of fr ns bs room ≡ refused OctetsTooShort w
  room_short h = by_room ∙ simp (lt-ltb room (length (octets_of fr (frames_of xs bs))) (omega (arith, long))) (ap (refused OctetsTooShort) long)

  pub written : w ≤ room → write_of fr ns bs room ≡ passed (frames_of xs bs)
  written h = by_room ∙ simp (le-ltb room (length (octets_of fr (frames_of xs bs))) (omega (arith, long)))
