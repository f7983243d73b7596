-- What is shown of a row, by legal sequences: its frame's own octets, and its augmentation, where they stand.
use mathlib.Core.Path.{◌≡◌, refl, sym, ap, ◌∙◌, subst}
use mathlib.Core.Bool.{Bool, true, false, cond, not}
use mathlib.Core.List.{List, [], ◌∷◌, ◌++◌, append_assoc, append-nil}
use Rattle.std.specs.Prelude.{Option, Some, None}
use Prim.Native.Nat.{ℕ, suc, ◌+◌, ◌-◌, ◌≤◌}
use native.Mathlib.Omega.{arith}
use native.Mathlib.Nat.{add-zero}
use lib.Dec.{T, eqb, eqb→eq}
use lib.ListN.{length, get_or, set, take, drop, length-append, length-set, length-drop, drop_of_length-le}
use lib.Seq.{drop_at, take_at, drop-drop, drop-append-le, drop-set-lt}
use Rattle.octets.specs.Octet.{Octets}
use Rattle.wire.specs.Frame.{Frame, Legal, table, framing_of, base, code, count_of, wire_octets, wire, octets_of}
use Rattle.wire.specs.Walk.{read_of}
use Rattle.wire.specs.declared.Session.{Session}
use Rattle.wire.specs.declared.Framing.{Framing}
use Rattle.wire.proofs.TableLaws.{bounds}
use Rattle.wire.proofs.Complete.{octets_snoc, Snoc, none, snoc, from_end}
use Rattle.octets.specs.Part.{Part, empty_part}
use Rattle.views.specs.View.{span, empty_span, is_augmented, augmentation_at, location_of, location_by, HasRow, NoRow, part_at, augmentation_of, frame_or, AugmentationView, FrameView, alone, shown_of}
use Rattle.views.specs.declared.Location.{Location}
use Rattle.wire.proofs.FrameAtEnd.{legal_frame, frame_octets, frame_long}
use Rattle.views.proofs.RowLocation.{located, locates, in_framing}

-- ---- octets of one frame among the others

module _ (fr : Framing) (p : List ℕ) (row : ℕ) (gs : List Frame) (f : Frame) (h : HasRow fr p row gs f) where
  from_start : drop (length (octets_of fr gs)) p ≡ wire fr f ++ octets_of fr h.behind
  from_start =
      ap (drop (length (octets_of fr gs))) (sym h.gives ∙ frame_octets fr gs f h.behind h.legal)
      ∙ drop_at (octets_of fr gs) (wire fr f ++ octets_of fr h.behind) (length (octets_of fr gs)) refl

  own_octets : take (wire_octets f.row) (drop (length (octets_of fr gs)) p) ≡ wire fr f
  own_octets = ap (take (wire_octets f.row)) from_start ∙ take_at (wire fr f) (octets_of fr h.behind) (wire_octets f.row) (frame_long fr gs f h.behind h.legal)

  size : length f.body ≡ base f.row + f.row.tc
  size = (legal_frame fr gs f h.behind h.legal).body.size

  -- the body as it stands on the wire
  coded : List ℕ
  coded = set f.body (base f.row - 1) (get_or f.body (base f.row - 1) 0 + code fr f.row)

  behind-base : drop (base f.row) coded ≡ drop (base f.row) f.body
  unfolding coded
  behind-base = let b = bounds f.row.kind in drop-set-lt (base f.row) f.body (base f.row - 1) _ (omega arith)

  own_augmentation : take f.row.tc (drop (length (octets_of fr gs) + base f.row) p) ≡ drop (base f.row) f.body
  unfolding coded
  own_augmentation =
      let rest : List ℕ = count_of f.row ++ octets_of fr h.behind in
      let n : base f.row ≤ length coded = simp length-set (omega (arith, size)) in
      let m : length (drop (base f.row) f.body) ≡ f.row.tc = simp length-drop (omega (arith, size)) in
      ap (take f.row.tc)
      (sym (drop-drop (base f.row) (length (octets_of fr gs)) p)
      ∙ ap (drop (base f.row)) (from_start ∙ append_assoc coded (count_of f.row) (octets_of fr h.behind))
      ∙ drop-append-le (base f.row) coded rest n
      ∙ ap (λ (y : List ℕ). y ++ rest) behind-base)
      ∙ take_at (drop (base f.row) f.body) rest f.row.tc m

  -- a body of a kind without augmentation ends with its base
  no_augmentation : is_augmented (table f.row.kind) ≡ false → drop (base f.row) f.body ≡ []
  no_augmentation e = go (eqb (table f.row.kind).most 0) refl e
    where
      go : (b : Bool) → eqb (table f.row.kind).most 0 ≡ b → not b ≡ false → drop (base f.row) f.body ≡ []
      go false q d = absurd (let z : ◌≡◌ {A = ℕ} 0 1 = cc in omega arith)
      go true q d =
          let z : (table f.row.kind).most ≡ 0 = eqb→eq _ _ (subst T (sym q) tt) in
          drop_of_length-le f.body {i = base f.row} (omega (arith, size, (legal_frame fr gs f h.behind h.legal).legal.most))

-- ---- the two views

empty_part_lem : {A : Type 0} (p : Part A) → part_at empty_span p ≡ empty_part p
empty_part_lem p = ap (λ (n : ℕ). record { block = p.block; start = n; octets = [] }) (add-zero p.start)

module _ {A : Type 0} (fr : Framing) (row : ℕ) (p : Part A) where
  module _ (gs : List Frame) (f : Frame) (h : HasRow fr p.octets row gs f) where
    pub frame_shown : (s : Part A) → frame_or (location_of (read_of fr p.octets) row) p s ≡ record { block = p.block; start = p.start + length (octets_of fr gs); octets = wire fr f }
    frame_shown s =
        ap (λ (x : Option Location). frame_or x p s) (located fr p.octets row gs f h)
        ∙ ap (λ (y : List ℕ). record { block = p.block; start = p.start + length (octets_of fr gs); octets = y }) (own_octets fr p.octets row gs f h)

    span_shown : augmentation_of (location_of (read_of fr p.octets) row) p ≡ part_at (augmentation_at (length (octets_of fr gs)) (table f.row.kind) f.row.tc) p
    span_shown = ap (λ (x : Option Location). augmentation_of x p) (located fr p.octets row gs f h)

    augmentation_shown : is_augmented (table f.row.kind) ≡ true
        → augmentation_of (location_of (read_of fr p.octets) row) p
        ≡ record { block = p.block; start = p.start + (length (octets_of fr gs) + base f.row); octets = drop (base f.row) f.body }
    augmentation_shown e =
        span_shown
        ∙ ap (λ (b : Bool). part_at (cond b (span (length (octets_of fr gs) + base f.row) f.row.tc) empty_span) p) e
        ∙ ap (λ (y : List ℕ). record { block = p.block; start = p.start + (length (octets_of fr gs) + base f.row); octets = y }) (own_augmentation fr p.octets row gs f h)

    augmentation_none : is_augmented (table f.row.kind) ≡ false → augmentation_of (location_of (read_of fr p.octets) row) p ≡ empty_part p
    augmentation_none e =
        span_shown
        ∙ ap (λ (b : Bool). part_at (cond b (span (length (octets_of fr gs) + base f.row) f.row.tc) empty_span) p) e
        ∙ empty_part_lem p

    augmentation_all : (augmentation_of (location_of (read_of fr p.octets) row) p).octets ≡ drop (base f.row) f.body
    augmentation_all = go (is_augmented (table f.row.kind)) refl
      where
        go : (b : Bool) → is_augmented (table f.row.kind) ≡ b → (augmentation_of (location_of (read_of fr p.octets) row) p).octets ≡ drop (base f.row) f.body
        go true e = ap (λ (x : Part A). x.octets) (augmentation_shown e)
        go false e = ap (λ (x : Part A). x.octets) (augmentation_none e) ∙ sym (no_augmentation fr p.octets row gs f h e)

-- ---- in a session

module _ {A : Type 0} (ses : Session) (row : ℕ) (p : Part A) (o : Octets p.octets) where
  is_in_lem : {fr : Framing} → framing_of ses ≡ Some fr → location_by (framing_of ses) p.octets row ≡ location_of (read_of fr p.octets) row
  is_in_lem = in_framing ses p.octets row

  missing : (fr : Framing) → framing_of ses ≡ Some fr → NoRow fr p.octets row → location_by (framing_of ses) p.octets row ≡ None
  missing = (locates ses p.octets row o refl).missing

  pub frame_view : (s r : Part A) → r ≡ frame_or (location_by (framing_of ses) p.octets row) p s → FrameView ses row p s r
  frame_view s r e = record {
    answer = e;
    shown = λ fr k gs f h. e ∙ ap (λ (x : Option Location). frame_or x p s) (is_in_lem k) ∙ frame_shown fr row p gs f h s;
    missing = λ fr k n. e ∙ ap (λ (x : Option Location). frame_or x p s) (missing fr k n);
  }

  pub augmentation_view : (r : Part A) → r ≡ augmentation_of (location_by (framing_of ses) p.octets row) p → AugmentationView ses row p r
  augmentation_view r e = record {
    answer = e;
    shown = λ fr k gs f h a. by k ∙ augmentation_shown fr row p gs f h a;
    none = λ fr k gs f h a. by k ∙ augmentation_none fr row p gs f h a;
    all = λ fr k gs f h. ap (λ (x : Part A). x.octets) (by k) ∙ augmentation_all fr row p gs f h;
    missing = λ fr k n. e ∙ ap (λ (x : Option Location). augmentation_of x p) (missing fr k n) ∙ empty_part_lem p;
  }
    where
      by : {fr : Framing} → framing_of ses ≡ Some fr → r ≡ augmentation_of (location_of (read_of fr p.octets) row) p
      by k = e ∙ ap (λ (x : Option Location). augmentation_of x p) (is_in_lem k)

  -- ---- the code's branches: x is the location that was found

  module _ {x : Option Location} (is : x ≡ location_by (framing_of ses) p.octets row) where
    pub frame_missing : (s : Part A) → x ≡ None → FrameView ses row p s s
    frame_missing s e = frame_view s s (ap (λ (y : Option Location). frame_or y p s) (sym e ∙ is))

    pub augmentation_missing : x ≡ None → AugmentationView ses row p (empty_part p)
    augmentation_missing e = augmentation_view (empty_part p) (sym (empty_part_lem p) ∙ ap (λ (y : Option Location). augmentation_of y p) (sym e ∙ is))

    module _ (l : Location) (e : x ≡ Some l) {r : Part A} where
      pub frame_at : (s : Part A) → r ≡ part_at l.frame p → FrameView ses row p s r
      frame_at s q = frame_view s r (q ∙ ap (λ (y : Option Location). frame_or y p s) (sym e ∙ is))

      pub augmentation_at_lem : r ≡ part_at l.augmentation p → AugmentationView ses row p r
      augmentation_at_lem q = augmentation_view r (q ∙ ap (λ (y : Option Location). augmentation_of y p) (sym e ∙ is))

-- ---- the views of all rows, one after another, are the payload

module _ (fr : Framing) (p s : List ℕ) where
  upto : {gs : List Frame} → Snoc gs → (hs : List Frame) → Legal fr (gs ++ hs) → octets_of fr (gs ++ hs) ≡ p → shown_of fr p s (length gs) ≡ octets_of fr gs
  unfolding shown_of
  upto none hs l e = refl
  upto (snoc {gs} v g) hs l e =
      let a : (gs ++ (g ∷ [])) ++ hs ≡ gs ++ (g ∷ hs) = append_assoc gs (g ∷ []) hs in
      let lg : Legal fr (gs ++ (g ∷ hs)) = rw a at l in
      let eg : octets_of fr (gs ++ (g ∷ hs)) ≡ p = rw a at e in
      let n : length (gs ++ (g ∷ [])) ≡ suc (length gs) = length-append gs (g ∷ []) ∙ omega arith in
      let shown = frame_shown fr (length gs) (alone p) gs g (record { behind = hs; legal = lg; gives = eg; number = refl }) (alone s) in
      ap (shown_of fr p s) n
      ∙ ap (λ (y : List ℕ). y ++ (frame_or (location_of (read_of fr p) (length gs)) (alone p) (alone s)).octets) (upto v (g ∷ hs) lg eg)
      ∙ ap (λ (y : List ℕ). octets_of fr gs ++ y) (ap (λ (y : Part (Unit {0})). y.octets) shown)
      ∙ sym (octets_snoc fr gs g)

  pub all_shown : (fs : List Frame) → Legal fr fs → octets_of fr fs ≡ p → shown_of fr p s (length fs) ≡ p
  all_shown fs l e = upto (from_end fs) [] (rw append-nil l) (rw append-nil e) ∙ e
