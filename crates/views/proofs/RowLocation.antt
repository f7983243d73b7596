-- The location of a row, by legal sequences: where the row's frame stands in the one that gives the payload, or missing.
use mathlib.Core.Path.{◌≡◌, refl, sym, ap, ◌∙◌, subst}
use mathlib.Core.Logic.{◌⊎◌, inl, inr}
use mathlib.Core.Bool.{Bool, true, false, cond}
use mathlib.Core.List.{List, [], ◌∷◌, ◌++◌}
use Prim.Native.Nat.{ℕ, zero, suc, ◌+◌, ◌≤◌, ◌<◌}
use native.Mathlib.Omega.{arith}
use native.Mathlib.Nat.{add-zero, zero-add}
use lib.ListN.{length, length-append}
use Rattle.std.specs.Prelude.{Option, Some, None, Result, Ok, Err}
use Rattle.std.specs.Result.{result_ok}
use Rattle.refusal.specs.declared.Reason.{Reason}
use Rattle.refusal.specs.declared.Refusal.{Refusal}
use Rattle.octets.specs.Octet.{Octets}
use Rattle.wire.specs.Frame.{Frame, Legal, LegalBodies, table, framing_of, base, wire_octets, wire, octets_of, rows_of}
use Rattle.wire.specs.Walk.{Walk, refused, read_of}
use Rattle.wire.specs.Answers.{Walks}
use Rattle.wire.specs.declared.Session.{Session}
use Rattle.wire.specs.declared.Framing.{Framing}
use Rattle.wire.specs.declared.Row.{Row}
use Rattle.wire.specs.declared.Summary.{Summary}
use Rattle.octets.proofs.Order.{below_or}
use Rattle.wire.proofs.Octets.{length-wire}
use Rattle.wire.proofs.Complete.{unique}
use Rattle.wire.proofs.Meaning.{reads_it, none_gives, Meaning, accepted, denied, meaning, went, stopped}
use Rattle.views.specs.View.{span, is_augmented, location_at, location_in, location_of, location_by, location_values, HasRow, NoRow, Locates}
use Rattle.views.specs.StepBack.{Holds}
use Rattle.views.specs.declared.Location.{Location}
use Rattle.wire.proofs.FrameAtEnd.{frame_inside}

-- ---- in a sequence

row_there : (fr : Framing) (a : ℕ) (gs : List Frame) (f : Frame) (hs : List Frame) → LegalBodies fr (gs ++ (f ∷ hs))
    → location_in a (rows_of (gs ++ (f ∷ hs))) (length gs) ≡ Some (location_at (a + length (octets_of fr gs)) f.row)
row_there fr a [] f hs b = ap (λ (n : ℕ). Some (location_at n f.row)) (sym (add-zero a))
row_there fr a (g ∷ gs) f hs b =
    let n : a + wire_octets g.row + length (octets_of fr gs) ≡ a + length (wire fr g ++ octets_of fr gs) =
    omega (arith, length-append (wire fr g) (octets_of fr gs), length-wire fr g.row g.body b.0.size) in
    row_there fr (a + wire_octets g.row) gs f hs b.1 ∙ ap (λ (m : ℕ). Some (location_at m f.row)) n

row_past : (a : ℕ) (fs : List Frame) (row : ℕ) → length fs ≤ row → location_in a (rows_of fs) row ≡ None
row_past a [] row h = refl
row_past a (f ∷ fs) zero h = absurd (omega arith)
row_past a (f ∷ fs) (suc row) h = row_past (a + wire_octets f.row) fs row (omega arith)

-- a sequence has a frame f behind `row` others
record Split (fs : List Frame) (row : ℕ) : Type 0 where
  gs : List Frame
  f : Frame
  hs : List Frame
  same : fs ≡ gs ++ (f ∷ hs)
  number : row ≡ length gs

split : (fs : List Frame) (row : ℕ) → row < length fs → Split fs row
split [] row h = absurd (omega arith)
split (f ∷ fs) zero h = record { gs = []; f = f; hs = fs; same = refl; number = refl }
split (f ∷ fs) (suc row) h =
    let s = split fs row (omega arith) in
    record { gs = f ∷ s.gs; f = s.f; hs = s.hs; same = ap (λ (l : List Frame). f ∷ l) s.same; number = ap suc s.number }

-- ---- in a payload

module _ (fr : Framing) (p : List ℕ) (row : ℕ) where
  pub located : (gs : List Frame) (f : Frame) → HasRow fr p row gs f → location_of (read_of fr p) row ≡ Some (location_at (length (octets_of fr gs)) f.row)
  unfolding location_of
  located gs f h =
      ap (λ (w : Walk). location_of w row) (reads_it fr p (gs ++ (f ∷ h.behind)) h.legal h.gives)
      ∙ ap (location_in 0 (rows_of (gs ++ (f ∷ h.behind)))) h.number
      ∙ row_there fr 0 gs f h.behind h.legal.bodies
      ∙ ap (λ (m : ℕ). Some (location_at m f.row)) (zero-add (length (octets_of fr gs)))

  -- a legal sequence that gives the payload has no such row
  pub past : (fs : List Frame) → Legal fr fs → octets_of fr fs ≡ p → length fs ≤ row → (location_of (read_of fr p) row ≡ None) × NoRow fr p row
  unfolding location_of
  past fs l e h = (
    ap (λ (w : Walk). location_of w row) (reads_it fr p fs l e) ∙ row_past 0 fs row h,
    λ gs m g. let same : gs ≡ fs = unique fr gs fs m l (g ∙ sym e) in omega (arith, ap length same),
  )

  -- no legal sequence gives the payload
  pub refused_missing : {x : Reason} {place : ℕ} {behind : List Frame} → read_of fr p ≡ refused x place behind → (location_of (read_of fr p) row ≡ None) × NoRow fr p row
  unfolding location_of
  refused_missing e = (ap (λ (w : Walk). location_of w row) e, λ fs l g. absurd (none_gives fr p e fs l g))

  -- the row is there, or it is not
  pub data Found : Option Location → Type 0 where
    there : (gs : List Frame) (f : Frame) → HasRow fr p row gs f → Found (Some (location_at (length (octets_of fr gs)) f.row))
    nowhere : NoRow fr p row → Found None

  pub found : Octets p → Found (location_of (read_of fr p) row)
  found o = go (meaning fr p o)
    where
      missing : (location_of (read_of fr p) row ≡ None) × NoRow fr p row → Found (location_of (read_of fr p) row)
      missing m = rw m.0 (nowhere m.1)

      go : {w : Walk} → Meaning fr p w → Found (location_of (read_of fr p) row)
      go (denied x d) = missing (refused_missing d.reads)
      go (accepted a) = pick (below_or row (length a.fs))
        where
          pick : (row < length a.fs) ⊎ (length a.fs ≤ row) → Found (location_of (read_of fr p) row)
          pick (inr h) = missing (past a.fs a.legal a.gives h)
          pick (inl h) =
              let s = split a.fs row h in
              let has : HasRow fr p row s.gs s.f =
              record { behind = s.hs; legal = subst (Legal fr) s.same a.legal; gives = ap (octets_of fr) (sym s.same) ∙ a.gives; number = s.number } in
              rw (located s.gs s.f has) (there s.gs s.f has)

  pub not_there : Octets p → NoRow fr p row → location_of (read_of fr p) row ≡ None
  not_there o h = go h (found o)
    where
      go : NoRow fr p row → {x : Option Location} → Found x → x ≡ None
      go h (nowhere n) = refl
      go h (there gs f has) =
          let n = h (gs ++ (f ∷ has.behind)) has.legal has.gives in
          absurd (omega (arith, length-append gs (f ∷ has.behind), has.number))

-- ---- in a session

module _ (ses : Session) (p : List ℕ) (row : ℕ) where
  pub in_framing : {fr : Framing} → framing_of ses ≡ Some fr → location_by (framing_of ses) p row ≡ location_of (read_of fr p) row
  in_framing k = ap (λ (x : Option Framing). location_by x p row) k

  -- what `locate` promises, of its answer
  pub locates : Octets p → {r : Option Location} → r ≡ location_by (framing_of ses) p row → Locates ses p row r
  locates o e = record {
    answer = e;
    values = ap location_values e;
    found = λ fr k gs f h. e ∙ in_framing k ∙ located fr p row gs f h;
    missing = λ fr k h. e ∙ in_framing k ∙ not_there fr p row o h;
  }

  -- what is there stands within the payload
  pub record Within (x : Location) : Type 0 where
    pub frame : x.frame.start + x.frame.length ≤ length p
    pub augmentation : x.augmentation.start + x.augmentation.length ≤ length p

  augmentation_within : (a : ℕ) (x : Row) → a + wire_octets x ≤ length p → (location_at a x).augmentation.start + (location_at a x).augmentation.length ≤ length p
  augmentation_within a x h = go (is_augmented (table x.kind))
    where
      go : (b : Bool) → (cond b (span (a + base x) x.tc) (span 0 0)).start + (cond b (span (a + base x) x.tc) (span 0 0)).length ≤ length p
      go true = omega arith
      go false = omega arith

  pub within : Octets p → {r : Option Location} → Locates ses p row r → (x : Location) → r ≡ Some x → Within x
  within o is x e = by (framing_of ses) (sym is.answer ∙ e)
    where
      go : (fr : Framing) {y : Option Location} → Found fr p row y → y ≡ Some x → Within x
      go fr (nowhere n) q = absurd (let z : ◌≡◌ {A = ℕ} 0 1 = cc in omega arith)
      go fr (there gs g has) q =
          let inside : length (octets_of fr gs) + wire_octets g.row ≤ length p = rw has.gives at (frame_inside fr gs g has.behind has.legal) in
          let same : location_at (length (octets_of fr gs)) g.row ≡ x = cc in
          let here : Within (location_at (length (octets_of fr gs)) g.row) =
          record { frame = inside; augmentation = augmentation_within (length (octets_of fr gs)) g.row inside } in
          rw (← same) here

      by : (k : Option Framing) → location_by k p row ≡ Some x → Within x
      by None q = absurd (let z : ◌≡◌ {A = ℕ} 0 1 = cc in omega arith)
      by (Some fr) q = go fr (found fr p row o) q

-- ---- the code's branches

-- what `ok` makes of an answer says what the answer was
was_ok : {A E : Type 0} (r : Result A E) (x : A) → Some x ≡ result_ok r → r ≡ Ok x
was_ok (Ok y) x q = let same : y ≡ x = cc in ap Ok same
was_ok (Err y) x q = absurd (let z : ◌≡◌ {A = ℕ} 0 1 = cc in omega arith)

-- the session's framing is fr, and w is what is known of the walk
module _ (ses : Session) (p : List ℕ) (row : ℕ) (o : Octets p) {fr : Framing} {w : Result Summary Refusal} (walks : Walks fr p w) (known : framing_of ses ≡ Some fr) where
  pub locates_in : {r : Option Location} → r ≡ location_of (read_of fr p) row → Locates ses p row r
  locates_in e = locates ses p row o (e ∙ sym (in_framing ses p row known))

  pub case_refused : None ≡ result_ok w → Locates ses p row None
  case_refused e = go w walks e
    where
      go : (w : Result Summary Refusal) → Walks fr p w → None ≡ result_ok w → Locates ses p row None
      go (Err x) is q = locates_in (sym (refused_missing fr p row (stopped fr p o is.answer x refl).reads).0)
      go (Ok s) is q = absurd (let z : ◌≡◌ {A = ℕ} 0 1 = cc in omega arith)

  module _ (s : Summary) (e : Some s ≡ result_ok w) where
    pub case_holds : Holds fr p s.frames
    case_holds =
        let (a, same) = went fr p o walks.answer s (was_ok w s e) in
        record { sequence = a.fs; legal = a.legal; gives = a.gives; frames = ap (λ (x : Summary). x.frames) same }

    pub case_past : s.frames ≤ row → Locates ses p row None
    case_past h =
        let holds = case_holds in
        locates_in (sym (past fr p row holds.sequence holds.legal holds.gives (omega (arith, holds.frames))).0)
