-- The structs of the library's answers, and the octets of a row's body.
use mathlib.Core.Path.{◌≡◌, refl, sym, ap, ◌∙◌}
use mathlib.Core.List.{List}
use Prim.Native.Nat.{ℕ, ◌+◌, ◌≤◌, ◌<◌}
use native.Mathlib.Omega.{arith}
use native.Mathlib.Nat.{zero-add}
use lib.ListN.{length, take, drop, length-drop}
use lib.Seq.{length-take-le}
use borrow.Author.Tests.{le-leb, lt-leb}
use Rattle.std.specs.Prelude.{Result, Ok, Err, Option, Some, None, ok_or}
use Rattle.refusal.specs.declared.Reason.TheVariants.{Unknown}
use Rattle.refusal.specs.declared.Reason.{Reason}
use Rattle.octets.specs.Octet.{Octets}
use Rattle.wire.specs.Frame.{table, row, kind_of, framing_of}
use Rattle.wire.specs.Answers.{KindKnown, shape_of}
use Rattle.wire.specs.declared.Session.{Session}
use Rattle.wire.specs.declared.Framing.TheVariants.{Unframed}
use Rattle.wire.specs.declared.Kind.{Kind}
use Rattle.wire.specs.declared.Shape.{Shape}
use Rattle.views.specs.View.{location_by, Locates, augmentation_of, frame_or, part_at}
use Rattle.views.specs.declared.Span.{Span}
use Rattle.views.specs.declared.Location.{Location}
use Rattle.views.proofs.RowLocation.{within}
use Rattle.views.proofs.Shown.{frame_view, augmentation_view}
use Rattle.moult.specs.Structs.{body_octets_of, lent, part_of}
use Rattle.moult.specs.Promises.{HostAugments, HostShows}
use Rattle.moult.specs.declared.MoultPart.{MoultPart}

-- ---- a row's body

module _ (k : Kind) (t : ℕ) {s : Shape} (e : s ≡ shape_of Unframed (row k t)) where
  least : s.entry.least ≡ (table k).least
  least = ap (λ (y : Shape). y.entry.least) e

  most : s.entry.most ≡ (table k).most
  most = ap (λ (y : Shape). y.entry.most) e

  tc : s.tc ≡ t
  tc = ap (λ (y : Shape). y.tc) e

  pub octets_below : s.tc < s.entry.least → 0 ≡ body_octets_of (Some k) t
  unfolding body_octets_of
  octets_below h = simp (lt-leb (table k).least t (omega (arith, least, tc)))

  pub octets_over : s.entry.least ≤ s.tc → s.entry.most < s.tc → 0 ≡ body_octets_of (Some k) t
  unfolding body_octets_of
  octets_over l h = simp (le-leb (table k).least t (omega (arith, least, tc)), lt-leb t (table k).most (omega (arith, most, tc)))

  pub octets_there : s.entry.least ≤ s.tc → s.tc ≤ s.entry.most → s.body ≡ body_octets_of (Some k) t
  unfolding body_octets_of
  octets_there l h =
      ap (λ (y : Shape). y.body) e
      ∙ simp (le-leb (table k).least t (omega (arith, least, tc)), le-leb t (table k).most (omega (arith, most, tc)))

module _ (n t : ℕ) {r : Result Kind Reason} (w : KindKnown n r) where
  pub octets_unknown : (e : Reason) → r ≡ Err e → 0 ≡ body_octets_of (kind_of n) t
  unfolding body_octets_of
  octets_unknown e q = go (kind_of n) (sym w.answer ∙ q)
    where
      go : (k : Option Kind) → ok_or k Unknown ≡ Err e → 0 ≡ body_octets_of k t
      go None d = refl
      go (Some k) d = absurd (let z : ◌≡◌ {A = ℕ} 0 1 = cc in omega arith)

  pub octets_known : (k : Kind) → r ≡ Ok k → {m : ℕ} → m ≡ body_octets_of (Some k) t → m ≡ body_octets_of (kind_of n) t
  octets_known k q {m} h = go (kind_of n) (sym w.answer ∙ q)
    where
      go : (j : Option Kind) → ok_or j Unknown ≡ Ok k → m ≡ body_octets_of j t
      go None d = absurd (let z : ◌≡◌ {A = ℕ} 0 1 = cc in omega arith)
      go (Some j) d = let same : j ≡ k = cc in h ∙ ap (λ (i : Kind). body_octets_of (Some i) t) (sym same)

-- ---- views

module _ (ses : Session) (p : List ℕ) (row : ℕ) (o : Octets p) {q : Option Location} (is : Locates ses p row q) where
  -- the promises, from the part that is shown
  augments : {x : MoultPart} → x ≡ part_of (augmentation_of q (lent 0 p)) → HostAugments ses p row x
  augments e =
      record {
        answer = augmentation_of (location_by (framing_of ses) p row) (lent 0 p);
        promise = augmentation_view ses row (lent 0 p) o _ refl;
        is = e ∙ ap (λ (y : Option Location). part_of (augmentation_of y (lent 0 p))) is.answer;
      }

  shows : (s : List ℕ) {x : MoultPart} → x ≡ part_of (frame_or q (lent 0 p) (lent 1 s)) → HostShows ses p row s x
  shows s e =
      record {
        answer = frame_or (location_by (framing_of ses) p row) (lent 0 p) (lent 1 s);
        promise = frame_view ses row (lent 0 p) o (lent 1 s) _ refl;
        is = e ∙ ap (λ (y : Option Location). part_of (frame_or y (lent 0 p) (lent 1 s))) is.answer;
      }

  -- a span of the payload, as the struct has it
  spanned : (x : Span) → x.start + x.length ≤ length p → record { stand_in = 0; start = x.start; length = x.length } ≡ part_of (part_at x (lent 0 p))
  spanned x h =
      let l : length (take x.length (drop x.start p)) ≡ x.length = length-take-le x.length (drop x.start p) (simp length-drop (omega arith)) in
      rw (zero-add x.start, l)

  pub augmentation_none : q ≡ None → HostAugments ses p row (record { stand_in = 0; start = 0; length = 0 })
  augmentation_none e = augments (ap (λ (y : Option Location). part_of (augmentation_of y (lent 0 p))) (sym e))

  pub frame_none : (s : List ℕ) → q ≡ None → HostShows ses p row s (record { stand_in = 1; start = 0; length = length s })
  frame_none s e = shows s (ap (λ (y : Option Location). part_of (frame_or y (lent 0 p) (lent 1 s))) (sym e))

  module _ (l : Location) (e : q ≡ Some l) where
    pub augmentation_there : HostAugments ses p row (record { stand_in = 0; start = l.augmentation.start; length = l.augmentation.length })
    augmentation_there =
        augments (spanned l.augmentation (within ses p row o is l e).augmentation ∙ ap (λ (y : Option Location). part_of (augmentation_of y (lent 0 p))) (sym e))

    pub frame_there : (s : List ℕ) → HostShows ses p row s (record { stand_in = 0; start = l.frame.start; length = l.frame.length })
    frame_there s =
        shows s (spanned l.frame (within ses p row o is l e).frame ∙ ap (λ (y : Option Location). part_of (frame_or y (lent 0 p) (lent 1 s))) (sym e))
