-- The cases of the walk's step as the code asks for them, in the numbers of a frame's shape.
use mathlib.Core.Path.{◌≡◌, refl, sym, ap, ◌∙◌}
use Prim.Native.Nat.{ℕ, ◌+◌, ◌-◌, ◌≤◌, ◌<◌}
use mathlib.Core.List.{List}
use native.Mathlib.Omega.{arith}
use native.Mathlib.Decide.{ℕ_discrete}
use lib.ListN.{length, get_or}
use borrow.Author.Tests.{lt-ltb, le-ltb}
use Rattle.std.specs.Prelude.{Result, Ok, Err}
use Rattle.refusal.specs.declared.Reason.TheVariants.{FrameCut, ComfortNoiseNotLast, AugmentationNot2400, RatesMixed}
use Rattle.refusal.specs.declared.Reason.{Reason}
use Rattle.wire.specs.Frame.{row, table, entry_in, count_in, count_of, base, code, top, rate, wire_octets}
use Rattle.wire.specs.Walk.{low_kind, named, whole, last_frame, beside, ending}
use Rattle.wire.specs.declared.Framing.{Framing, Framing}
use Rattle.wire.specs.declared.Kind.{Kind, Kind}
use Rattle.wire.specs.declared.Kind.TheVariants.{ComfortNoise, Tsvcis}
use Rattle.wire.specs.Answers.{shape_of, step_of}
use Rattle.wire.specs.declared.Entry.{Entry, Entry}
use Rattle.wire.specs.declared.Row.{Row, Row}
use Rattle.wire.specs.declared.Shape.{Shape, Shape}
use Rattle.wire.proofs.TableLaws.{bounds, octet}
use Rattle.wire.proofs.Endings.{ending_one}
use Rattle.wire.proofs.Rates.{noise_first, noise_late, coder_first, coder_same, coder_mixed}

-- what holds of a frame's numbers
pub record Sized (s : Shape) : Type 0 where
  pub base : 2 ≤ s.entry.octets
  pub within : s.entry.octets ≤ s.body
  pub body : s.body ≤ s.wire
  pub octet : s.entry.code + s.entry.top < 255

module _ (fr : Framing) where
  -- a frame's numbers, from its kind's entry in the session
  pub shape_is : (x : Row) (e d : Entry) (n : ℕ) → e ≡ table x.kind → d ≡ entry_in fr e → n ≡ length (count_in d.counting x.tc)
      → record { entry = d; tc = x.tc; count = n; body = d.octets + x.tc; wire = d.octets + x.tc + n } ≡ shape_of fr x
  shape_is x e d n p q c =
      let r : d ≡ entry_in fr (table x.kind) = q ∙ ap (entry_in fr) p in
      let m : n ≡ length (count_of x) = c ∙ ap (λ (y : Entry). length (count_in y.counting x.tc)) r in
      λ i. record { entry = r i; tc = x.tc; count = m i; body = (r i).octets + x.tc; wire = (r i).octets + x.tc + m i }

  pub sized : (x : Row) {s : Shape} → s ≡ shape_of fr x → Sized s
  sized x e = let b = bounds x.kind in rw e (record { base = b.least; within = omega arith; body = omega arith; octet = octet fr x.kind })

  module _ (p : List ℕ) (u n r : ℕ) (x : Row) {s : Shape} (e : s ≡ shape_of fr x) where
    rate_is : s.entry.rate ≡ rate x
    rate_is = ap (λ (y : Shape). y.entry.rate) e

    pub admit_cut : u < s.wire → Err FrameCut ≡ step_of fr (beside n r (whole fr p u (Ok x)))
    unfolding beside whole
    admit_cut h = let l : u < wire_octets x = rw e at h in simp (lt-ltb u (wire_octets x) l)

    module _ (h : s.wire ≤ u) where
      pub admit_foreign : s.entry.code + s.entry.top < get_or p (u - s.wire + (s.entry.octets - 1)) 0
          → Err AugmentationNot2400 ≡ step_of fr (beside n r (whole fr p u (Ok x)))
      unfolding beside whole
      admit_foreign b =
          let l : wire_octets x ≤ u = rw e at h in
          let c : code fr x + top fr x < get_or p (u - wire_octets x + (base x - 1)) 0 = rw e at b in
          simp (le-ltb u (wire_octets x) l, lt-ltb (code fr x + top fr x) (get_or p (u - wire_octets x + (base x - 1)) 0) c)

      module _ (b : get_or p (u - s.wire + (s.entry.octets - 1)) 0 ≤ s.entry.code + s.entry.top) where
        is_whole : whole fr p u (Ok x) ≡ Ok x
        unfolding whole
        is_whole =
            let l : wire_octets x ≤ u = rw e at h in
            let c : get_or p (u - wire_octets x + (base x - 1)) 0 ≤ code fr x + top fr x = rw e at b in
            simp (le-ltb u (wire_octets x) l, le-ltb (code fr x + top fr x) (get_or p (u - wire_octets x + (base x - 1)) 0) c)

        comes_to : (f : Result Row Reason) → beside n r (Ok x) ≡ f → step_of fr f ≡ step_of fr (beside n r (whole fr p u (Ok x)))
        comes_to f q = ap (step_of fr) (sym q ∙ ap (beside n r) (sym is_whole))

        pub admit_late : s.entry.rate ≡ 0 → (n ≡ 0 → ⊥) → Err ComfortNoiseNotLast ≡ step_of fr (beside n r (whole fr p u (Ok x)))
        admit_late z m = comes_to (Err ComfortNoiseNotLast) (noise_late n r x (sym rate_is ∙ z) m)

        pub admit_mixed : (s.entry.rate ≡ 0 → ⊥) → (r ≡ 0 → ⊥) → (s.entry.rate ≡ r → ⊥) → Err RatesMixed ≡ step_of fr (beside n r (whole fr p u (Ok x)))
        admit_mixed z q m = comes_to (Err RatesMixed) (coder_mixed n r x (λ d. z (rate_is ∙ d)) q (λ d. m (rate_is ∙ d)))

        pub admit_passes : (s.entry.rate ≡ 0 → n ≡ 0) → ((s.entry.rate ≡ 0 → ⊥) → (r ≡ 0 → ⊥) → s.entry.rate ≡ r) → Ok s ≡ step_of fr (beside n r (whole fr p u (Ok x)))
        admit_passes late mixed = ap Ok e ∙ comes_to (Ok x) (go (ℕ_discrete s.entry.rate 0) (ℕ_discrete r 0))
          where
            go : Dec (s.entry.rate ≡ 0) → Dec (r ≡ 0) → beside n r (Ok x) ≡ Ok x
            go (yes z) q = noise_first n r x (sym rate_is ∙ z) (late z)
            go (no z) (yes q) = coder_first n r x (λ d. z (rate_is ∙ d)) q
            go (no z) (no q) = coder_same n r x (λ d. z (rate_is ∙ d)) (sym rate_is ∙ mixed z q)

  -- what was identified, put to the same
  module _ (p : List ℕ) (u n r : ℕ) {e : Result Row Reason} (i : e ≡ ending fr p u) where
    pub step_refused : (m : Reason) → e ≡ Err m → Err m ≡ step_of fr (beside n r (last_frame fr p u))
    unfolding last_frame beside whole
    step_refused m q = rw (sym i ∙ q)

    pub step_names : (x : Row) → e ≡ Ok x → {s : Result Shape Reason} → s ≡ step_of fr (beside n r (whole fr p u (Ok x))) → s ≡ step_of fr (beside n r (last_frame fr p u))
    unfolding last_frame
    step_names x q a = a ∙ ap (λ (f : Result Row Reason). step_of fr (beside n r (whole fr p u f))) (sym q ∙ i)

  -- a last octet that names a frame by itself
  pub step_octet : (p : List ℕ) (u n r x : ℕ) (y : Row) → 1 ≤ u → get_or p (u - 1) 0 ≡ x → x < 255 → Ok y ≡ named fr x → {s : Result Shape Reason} → s ≡ step_of fr (beside n r (whole fr p u (Ok y)))
      → s ≡ step_of fr (beside n r (last_frame fr p u))
  step_octet p u n r x y l e h q a = step_names p u n r refl y (ending_one fr p u x l e h ∙ sym q) a

  pub names_low : (x : ℕ) → x < 128 → {k : Kind} → k ≡ low_kind fr x → Ok (row k 0) ≡ named fr x
  unfolding named
  names_low x h e = simp (lt-ltb x 128 h) (ap (λ (k : Kind). Ok (row k 0)) e)

  pub names_noise : (x : ℕ) → 160 ≤ x → x < 192 → Ok (row ComfortNoise 0) ≡ named fr x
  unfolding named
  names_noise x l h = simp (le-ltb x 128 (omega arith), le-ltb x 130 (omega arith), le-ltb x 160 (omega arith), lt-ltb x 192 (omega arith))

  pub names_short : (x t : ℕ) → 192 ≤ x → t ≡ x - 177 → Ok (row Tsvcis t) ≡ named fr x
  unfolding named
  names_short x t l e =
      simp (le-ltb x 128 (omega arith), le-ltb x 130 (omega arith), le-ltb x 160 (omega arith), le-ltb x 192 (omega arith))
      (ap (λ (n : ℕ). Ok (row Tsvcis n)) (omega arith))

  -- the step over a frame of a short count, as its last octet says
  pub step_short : (p : List ℕ) (u n r : ℕ) → 1 ≤ u → 192 ≤ get_or p (u - 1) 0 → get_or p (u - 1) 0 < 255
      → step_of fr (beside n r (last_frame fr p u)) ≡ step_of fr (beside n r (whole fr p u (Ok (row Tsvcis (get_or p (u - 1) 0 - 177)))))
  step_short p u n r l a h = sym (step_octet p u n r (get_or p (u - 1) 0) (row Tsvcis (get_or p (u - 1) 0 - 177)) l refl h (names_short _ _ a refl) refl)
