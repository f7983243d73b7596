-- A frame beside those already read: it may stand there exactly if the walk's 6 and 8 do not refuse it. And the bounds of ticks.
use mathlib.Core.Path.{◌≡◌, refl, sym, ap, subst, ◌∙◌}
use mathlib.Core.Logic.{◌⊎◌, inl, inr}
use mathlib.Core.Bool.{Bool, true, false, cond, ◌||◌}
use mathlib.Core.List.{List, [], ◌∷◌}
use Prim.Native.Nat.{ℕ, zero, suc, ◌≤◌}
use native.Mathlib.Omega.{arith}
use native.Mathlib.Decide.{ℕ_discrete}
use lib.Dec.{T, eqb, eqb_refl}
use lib.ListN.{length}
use borrow.Author.Tests.{eq-eqb, ne_eqb}
use Rattle.std.specs.Prelude.{Result, Ok, Err}
use Rattle.refusal.specs.declared.Reason.TheVariants.{ComfortNoiseNotLast, RatesMixed}
use Rattle.refusal.specs.declared.Reason.{Reason}
use Rattle.wire.specs.Frame.{agreed_rate, AgreedOn, LegalRow, Stands, OfRate, rate, ticks_of_rate}
use Rattle.wire.specs.Walk.{rate_of, beside}
use Rattle.wire.specs.declared.Framing.{Framing, Framing}
use Rattle.wire.specs.declared.Row.{Row, Row}
use Rattle.wire.proofs.NameLaws.{agrees}

-- ---- the walk's 6 and 8, case by case

module _ (n r : ℕ) (x : Row) where
  module _ (z : rate x ≡ 0) where
    pub noise_first : n ≡ 0 → beside n r (Ok x) ≡ Ok x
    unfolding beside
    noise_first e = simp (eq-eqb (rate x) 0 z, eq-eqb n 0 e)

    pub noise_late : (n ≡ 0 → ⊥) → beside n r (Ok x) ≡ Err ComfortNoiseNotLast
    unfolding beside
    noise_late e = simp (eq-eqb (rate x) 0 z, ne_eqb n 0 e)

  module _ (z : rate x ≡ 0 → ⊥) where
    pub coder_first : r ≡ 0 → beside n r (Ok x) ≡ Ok x
    unfolding beside
    coder_first e = simp (ne_eqb (rate x) 0 z, eq-eqb r 0 e)

    pub coder_same : rate x ≡ r → beside n r (Ok x) ≡ Ok x
    unfolding beside
    coder_same e = let q : r ≡ 0 → ⊥ = λ d. z (e ∙ d) in simp (ne_eqb (rate x) 0 z, ne_eqb r 0 q, eq-eqb (rate x) r e)

    pub coder_mixed : (r ≡ 0 → ⊥) → (rate x ≡ r → ⊥) → beside n r (Ok x) ≡ Err RatesMixed
    unfolding beside
    coder_mixed q e = simp (ne_eqb (rate x) 0 z, ne_eqb r 0 q, ne_eqb (rate x) r e)

-- ---- what may stand

-- a coder frame or comfort noise
pub either : (r s : ℕ) (behind : List Row) → Stands r s behind → ((s ≡ 0) × (behind ≡ [])) ⊎ ((s ≡ 0 → ⊥) × (s ≡ r))
either r zero behind h = inl (refl, h)
either r (suc s) behind h = inr ((λ e. omega arith), h)

pub noise_stands : (r s : ℕ) (behind : List Row) → s ≡ 0 → behind ≡ [] → Stands r s behind
noise_stands r zero behind z e = e
noise_stands r (suc s) behind z e = absurd (omega arith)

pub coder_stands : (r s : ℕ) (behind : List Row) → (s ≡ 0 → ⊥) → s ≡ r → Stands r s behind
coder_stands r zero behind z e = absurd (z refl)
coder_stands r (suc s) behind z e = e

module _ (r : ℕ) where
  rate_noise : (x : Row) (behind : List Row) → rate x ≡ 0 → rate_of r (x ∷ behind) ≡ rate_of r behind
  rate_noise x behind z = simp (eq-eqb (rate x) 0 z)

  rate_coder : (x : Row) (behind : List Row) → (rate x ≡ 0 → ⊥) → rate_of r (x ∷ behind) ≡ rate x
  rate_coder x behind z = simp (ne_eqb (rate x) 0 z)

-- where there are coder frames, their rate is the rate of rows, whatever it would be without them
pub rate_read : (r : ℕ) (xs : List Row) → (rate_of 0 xs ≡ 0 → ⊥) → rate_of r xs ≡ rate_of 0 xs
rate_read r [] h = absurd (h refl)
rate_read r (x ∷ xs) h = go (rate_read r xs) (ℕ_discrete (rate x) 0)
  where
    go : ((rate_of 0 xs ≡ 0 → ⊥) → rate_of r xs ≡ rate_of 0 xs) → Dec (rate x ≡ 0) → rate_of r (x ∷ xs) ≡ rate_of 0 (x ∷ xs)
    go rest (yes z) = rate_noise r x xs z ∙ rest (λ e. h (rate_noise 0 x xs z ∙ e)) ∙ sym (rate_noise 0 x xs z)
    go rest (no z) = rate_coder r x xs z ∙ sym (rate_coder 0 x xs z)

none_behind : (xs : List Row) → length xs ≡ 0 → xs ≡ []
none_behind [] e = refl
none_behind (y ∷ ys) e = absurd (omega arith)

or_left : (a b : Bool) → T a → T (a || b)
or_left true b t = tt
or_left false b t = absurd t

or_right : (a b : Bool) → T b → T (a || b)
or_right true b t = tt
or_right false b t = t

eqb_is : (m n : ℕ) → m ≡ n → T (eqb m n)
eqb_is m n e = subst (λ (k : ℕ). T (eqb m k)) e (eqb_refl m)

module _ (fr : Framing) where
  -- what may stand in a sequence of a rate that the session agreed on is of a kind that it leaves room for
  pub stands_agrees : (r : ℕ) (x : Row) (behind : List Row) → AgreedOn fr r → Stands r (rate x) behind → T (agrees fr x.kind)
  stands_agrees r x behind a s = go a (either r (rate x) behind s)
    where
      go : AgreedOn fr r → ((rate x ≡ 0) × (behind ≡ [])) ⊎ ((rate x ≡ 0 → ⊥) × (rate x ≡ r)) → T (agrees fr x.kind)
      go (inl z) w = or_left (eqb (agreed_rate fr) 0) _ (eqb_is (agreed_rate fr) 0 z)
      go (inr e) (inl w) = or_right (eqb (agreed_rate fr) 0) _ (or_left (eqb (rate x) 0) _ (eqb_is (rate x) 0 w.0))
      go (inr e) (inr w) = or_right (eqb (agreed_rate fr) 0) _ (or_right (eqb (rate x) 0) _ (eqb_is (agreed_rate fr) (rate x) (e ∙ sym w.1)))

  -- the coder frames of a sequence of rate r are of that rate; or there are none, nothing is agreed, and it is then of any rate
  abbrev Coders : ℕ → List Row → Type 0
  Coders r xs = ((rate_of (agreed_rate fr) xs ≡ 0 → ⊥) × (rate_of (agreed_rate fr) xs ≡ r)) ⊎ ((agreed_rate fr ≡ 0) × (rate_of (agreed_rate fr) xs ≡ 0) × ((s : ℕ) → OfRate s xs))

  none_yet : (r : ℕ) (xs : List Row) → AgreedOn fr r → rate_of (agreed_rate fr) xs ≡ agreed_rate fr → ((s : ℕ) → OfRate s xs) → Coders r xs
  none_yet r xs a e all = go (ℕ_discrete (agreed_rate fr) 0) a
    where
      go : Dec (agreed_rate fr ≡ 0) → AgreedOn fr r → Coders r xs
      go (yes z) q = inr (z, e ∙ z, all)
      go (no z) (inl q) = absurd (z q)
      go (no z) (inr q) = inl ((λ d. z (sym e ∙ d)), e ∙ q)

  coders : (r : ℕ) (xs : List Row) → AgreedOn fr r → OfRate r xs → Coders r xs
  coders r [] a h = none_yet r [] a refl (λ s. tt)
  coders r (x ∷ xs) a h = go (either r (rate x) xs h.1)
    where
      go : ((rate x ≡ 0) × (xs ≡ [])) ⊎ ((rate x ≡ 0 → ⊥) × (rate x ≡ r)) → Coders r (x ∷ xs)
      go (inl w) = none_yet r (x ∷ xs) a (rate_noise (agreed_rate fr) x xs w.0 ∙ ap (rate_of (agreed_rate fr)) w.1) (λ s. (h.0, noise_stands s (rate x) xs w.0 w.1, rw w.1 tt))
      go (inr w) = let e = rate_coder (agreed_rate fr) x xs w.0 in inl ((λ d. w.0 (sym e ∙ d)), e ∙ w.1)

  module _ (x : Row) (behind : List Row) where
    -- a frame that may stand before the others is not refused beside them
    pub beside_stands : (r : ℕ) → AgreedOn fr r → Stands r (rate x) behind → OfRate r behind → beside (length behind) (rate_of (agreed_rate fr) behind) (Ok x) ≡ Ok x
    beside_stands r a s h = go (either r (rate x) behind s) (coders r behind a h)
      where
        go : ((rate x ≡ 0) × (behind ≡ [])) ⊎ ((rate x ≡ 0 → ⊥) × (rate x ≡ r)) → Coders r behind → beside (length behind) (rate_of (agreed_rate fr) behind) (Ok x) ≡ Ok x
        go (inl w) q = noise_first (length behind) (rate_of (agreed_rate fr) behind) x w.0 (ap length w.1)
        go (inr w) (inl q) = coder_same (length behind) (rate_of (agreed_rate fr) behind) x w.0 (w.1 ∙ sym q.1)
        go (inr w) (inr q) = coder_first (length behind) (rate_of (agreed_rate fr) behind) x w.0 q.1

    -- a frame that is not refused beside the others makes a sequence of one rate with them
    pub stands_beside : (r : ℕ) → LegalRow x → AgreedOn fr r → OfRate r behind → (y : Row) → beside (length behind) (rate_of (agreed_rate fr) behind) (Ok x) ≡ Ok y
        → (s : ℕ) × AgreedOn fr s × OfRate s (x ∷ behind)
    stands_beside r l a h y e = go (ℕ_discrete (rate x) 0) (ℕ_discrete (length behind) 0) (ℕ_discrete (rate x) (rate_of (agreed_rate fr) behind)) (coders r behind a h)
      where
        wrong : (n : Reason) → beside (length behind) (rate_of (agreed_rate fr) behind) (Ok x) ≡ Err n → (s : ℕ) × AgreedOn fr s × OfRate s (x ∷ behind)
        wrong n d = absurd (let z : ◌≡◌ {A = ℕ} 0 1 = cc in omega arith)

        go : Dec (rate x ≡ 0) → Dec (length behind ≡ 0) → Dec (rate x ≡ rate_of (agreed_rate fr) behind) → Coders r behind → (s : ℕ) × AgreedOn fr s × OfRate s (x ∷ behind)
        go (yes z) (yes n) m q = (r, a, (l, noise_stands r (rate x) behind z (none_behind behind n), h))
        go (yes z) (no n) m q = wrong ComfortNoiseNotLast (noise_late (length behind) (rate_of (agreed_rate fr) behind) x z n)
        go (no z) n m (inr q) = (rate x, inl q.0, (l, coder_stands (rate x) (rate x) behind z refl, q.2 (rate x)))
        go (no z) n (yes m) (inl q) = (r, a, (l, coder_stands r (rate x) behind z (m ∙ q.1), h))
        go (no z) n (no m) (inl q) = wrong RatesMixed (coder_mixed (length behind) (rate_of (agreed_rate fr) behind) x z q.0 m)

-- what was found beside the frames read is refused, or the same
pub beside_same : (n r : ℕ) (x y : Row) → beside n r (Ok x) ≡ Ok y → x ≡ y
unfolding beside
beside_same n r x y e = go (eqb (rate x) 0) (eqb n 0) (eqb r 0) (eqb (rate x) r) e
  where
    go : (a b c d : Bool) → cond a (cond b (Ok x) (Err ComfortNoiseNotLast)) (cond c (Ok x) (cond d (Ok x) (Err RatesMixed))) ≡ Ok y → x ≡ y
    go true true c d q = cc
    go true false c d q = absurd (let z : ◌≡◌ {A = ℕ} 0 1 = cc in omega arith)
    go false b true d q = cc
    go false b false true q = cc
    go false b false false q = absurd (let z : ◌≡◌ {A = ℕ} 0 1 = cc in omega arith)

refused_stays : (n r : ℕ) (m : Reason) (y : Row) → beside n r (Err m) ≡ Ok y → ⊥
unfolding beside
refused_stays n r m y d = let z : ◌≡◌ {A = ℕ} 0 1 = cc in omega arith

-- a coder frame that is not refused beside coder frames is of their rate
pub rate-kept : (n r : ℕ) (e : Result Row Reason) (y : Row) → beside n r e ≡ Ok y → (r ≡ 0 → ⊥) → (rate y ≡ 0 → ⊥) → rate y ≡ r
rate-kept n r (Err m) y q a b = absurd (refused_stays n r m y q)
rate-kept n r (Ok x) y q a b = go (ℕ_discrete (rate y) r)
  where
    go : Dec (rate y ≡ r) → rate y ≡ r
    go (yes m) = m
    go (no m) =
        let d : Err RatesMixed ≡ Ok y = sym (coder_mixed n r y b a m) ∙ ap (λ (w : Row). beside n r (Ok w)) (sym (beside_same n r x y q)) ∙ q in
        absurd (let z : ◌≡◌ {A = ℕ} 0 1 = cc in omega arith)

-- ---- ticks

module _ (r : ℕ) where
  pub at_2400 : r ≡ 2400 → 180 ≡ ticks_of_rate r
  unfolding ticks_of_rate
  at_2400 e = simp (eq-eqb r 2400 e)

  pub at_1200 : r ≡ 1200 → 540 ≡ ticks_of_rate r
  unfolding ticks_of_rate
  at_1200 e = simp (ne_eqb r 2400 (λ q. omega arith), eq-eqb r 1200 e)

  pub at_600 : r ≡ 600 → 720 ≡ ticks_of_rate r
  unfolding ticks_of_rate
  at_600 e = simp (ne_eqb r 2400 (λ q. omega arith), ne_eqb r 1200 (λ q. omega arith), eq-eqb r 600 e)

  pub at_none : (r ≡ 2400 → ⊥) → (r ≡ 1200 → ⊥) → (r ≡ 600 → ⊥) → 0 ≡ ticks_of_rate r
  unfolding ticks_of_rate
  at_none a b c = simp (ne_eqb r 2400 a, ne_eqb r 1200 b, ne_eqb r 600 c)

  pub ticks_most : ticks_of_rate r ≤ 720
  unfolding ticks_of_rate
  ticks_most = go (eqb r 2400) (eqb r 1200) (eqb r 600)
    where
      go : (a b c : Bool) → cond a 180 (cond b 540 (cond c 720 0)) ≤ 720
      go true b c = omega arith
      go false true c = omega arith
      go false false true = omega arith
      go false false false = omega arith
