-- Laws of one step: what each case comes to, and that its numbers fit.
use mathlib.Core.Path.{◌≡◌, refl, sym, subst, ◌∙◌, ap}
use mathlib.Core.Logic.{◌⊎◌, inl, inr}
use mathlib.Core.Bool.{Bool, true, false, cond, ◌&&◌}
use Prim.Native.Nat.{ℕ, zero, suc, ◌+◌, ◌-◌, ◌*◌, ◌%◌, ◌^◌, ◌≤◌, ◌<◌}
use native.Mathlib.Nat.{pow-suc, pow-le-pow_right, mul-le-mul_right}
use Rattle.std.specs.Prelude.{Option, Some, None}
use Rattle.std.proofs.lemmas.Nat.{one_shl, pow-add}
use native.Mathlib.Numerals.{add-one}
use native.Mathlib.Omega.{arith}
use lib.Dec.{ltb, leb, eqb}
use Rattle.std.specs.Bool.{then_some}
use Rattle.std.proofs.lemmas.Bool.{lt-ltb, le-ltb, lt-leb, le-leb, eq-eqb, ne_eqb, ltb-false, and_left, and_right, cases_lt}
use Rattle.leb128.specs.Number.{Partial, last_group, more_groups, step_of, group_values, Steps}
use Rattle.leb128.specs.declared.Group.{Group}
use Rattle.leb128.specs.declared.Group.TheVariants.{More, Last}

-- ---- ranges

-- what a group is worth behind k others, as `step` computes it
abbrev weight : ℕ → ℕ
weight k = (1 * 2 ^ (7 * k)) % 18446744073709551616

pub weight_lem : (k : ℕ) → k < 9 → weight k ≡ 128 ^ k
weight_lem k h = one_shl (7 * k) 64 (omega arith) ∙ go k
  where
    go : (i : ℕ) → 2 ^ (7 * i) ≡ 128 ^ i
    go zero = refl
    go (suc i) =
        let e : 7 * suc i ≡ 7 * i + 7 = omega arith in
        ap (λ (j : ℕ). 2 ^ j) e ∙ pow-add 2 (7 * i) 7 ∙ ap (λ (n : ℕ). n * 128) (go i) ∙ sym (pow-suc 128 i)

-- g is the group of the octet x behind k groups of the value v
module _ (v k x : ℕ) (few : k < 9) (held : v < weight k) {g : ℕ} (eg : g ≡ x % 128) where
  below : g * weight k ≤ 127 * weight k
  below = mul-le-mul_right (weight k) (omega arith)

  most_weight : weight k ≤ 72057594037927936
  most_weight = rw (weight_lem k few) (pow-le-pow_right {n = 128} (omega arith) {i = k} {j = 8} (omega arith))

  pub product_fits : g * weight k < 18446744073709551616
  product_fits = omega (arith, below, most_weight)

  pub sum_fits : v + g * weight k < 18446744073709551616
  sum_fits = omega (arith, below, most_weight)

  pub within : Partial v k
  within = record { few = few; held = rw (weight_lem k few) at held }

  pub worth : {y : ℕ} → x % 128 ≡ y → v + g * weight k ≡ v + y * 128 ^ k
  worth e = rw (eg, weight_lem k few, e) refl

-- one group more still comes to what its groups can hold
pub held_more : (v k x : ℕ) → v < 128 ^ k → x < 128 → v + x * 128 ^ k < 128 ^ (k + 1)
held_more v k x h l =
    let e : 128 ^ (k + 1) ≡ 128 ^ k * 128 = rw (add-one k) (pow-suc 128 k) in
    let b : x * 128 ^ k ≤ 127 * 128 ^ k = mul-le-mul_right (128 ^ k) (omega arith) in
    omega arith

-- ---- cases

pub last_zero : (bound v k x : ℕ) → x ≡ 0 → 0 < k → None ≡ last_group bound v k x
unfolding last_group
last_zero bound v k x e h = simp (eq-eqb x 0 e, lt-ltb 0 k h)

-- in the shortest form: n is the value with this group
module _ (bound v k x : ℕ) (s : 1 ≤ k → 1 ≤ x) {n : ℕ} (e : n ≡ v + x * 128 ^ k) where
  shortest : (eqb x 0 && ltb 0 k) ≡ false
  shortest = go (cases_lt 0 k)
    where
      go : (0 < k) ⊎ (k ≤ 0) → (eqb x 0 && ltb 0 k) ≡ false
      go (inl q) = and_left (eqb x 0) (ltb 0 k) (ne_eqb x 0 (λ z. omega (arith, s q)))
      go (inr q) = and_right (eqb x 0) (ltb 0 k) (le-ltb 0 k q)

  pub last_over : bound < n → None ≡ last_group bound v k x
  unfolding last_group
  last_over h = simp (shortest, ← e, lt-ltb bound n h)

  pub last_right : n ≤ bound → Some (Last n) ≡ last_group bound v k x
  unfolding last_group
  last_right h = simp (shortest, ← e, le-ltb bound n h)

  pub last_either : then_some (leb n bound) (Last n) ≡ last_group bound v k x
  last_either = go (cases_lt bound n)
    where
      go : (bound < n) ⊎ (n ≤ bound) → then_some (leb n bound) (Last n) ≡ last_group bound v k x
      go (inl h) = rw (lt-leb n bound h) (last_over h)
      go (inr h) = rw (le-leb n bound h) (last_right h)

pub more_right : (most v k x : ℕ) {n : ℕ} → k + 1 < most → n ≡ v + (x - 128) * 128 ^ k → Some (More n) ≡ more_groups most v k x
unfolding more_groups
more_right most v k x {n} h e = simp (lt-ltb (k + 1) most h, ← e)

pub more_many : (most v k x : ℕ) → most ≤ k + 1 → None ≡ more_groups most v k x
unfolding more_groups
more_many most v k x h = simp (le-ltb (k + 1) most h)

pub more_either : (most v k x : ℕ) {n : ℕ} → n ≡ v + (x - 128) * 128 ^ k → then_some (ltb (k + 1) most) (More n) ≡ more_groups most v k x
more_either most v k x {n} e = go (cases_lt (k + 1) most)
  where
    go : (k + 1 < most) ⊎ (most ≤ k + 1) → then_some (ltb (k + 1) most) (More n) ≡ more_groups most v k x
    go (inl h) = rw (lt-ltb (k + 1) most h) (more_right most v k x h e)
    go (inr h) = rw (le-ltb (k + 1) most h) (more_many most v k x h)

pub step_many : (most bound v k x : ℕ) → 9 ≤ k → None ≡ step_of most bound v k x
unfolding step_of
step_many most bound v k x h = simp (le-ltb k 9 h)

-- no group may follow
pub step_full : (most bound v k x : ℕ) → most ≤ k → None ≡ step_of most bound v k x
unfolding step_of
step_full most bound v k x l = go (cases_lt k 9)
  where
    go : (k < 9) ⊎ (9 ≤ k) → None ≡ step_of most bound v k x
    go (inl h) = simp (lt-ltb k 9 h, le-ltb k most l)
    go (inr h) = step_many most bound v k x h

pub step_large : (most bound v k x : ℕ) → k < 9 → k < most → 128 ^ k ≤ v → None ≡ step_of most bound v k x
unfolding step_of
step_large most bound v k x h f l = simp (lt-ltb k 9 h, lt-ltb k most f, le-ltb v (128 ^ k) l)

pub step_last : (most bound v k x : ℕ) → Partial v k → k < most → x < 128 → last_group bound v k x ≡ step_of most bound v k x
unfolding step_of
step_last most bound v k x p f h = simp (lt-ltb k 9 p.few, lt-ltb k most f, lt-ltb v (128 ^ k) p.held, lt-ltb x 128 h)

pub step_more : (most bound v k x : ℕ) → Partial v k → k < most → 128 ≤ x → more_groups most v k x ≡ step_of most bound v k x
unfolding step_of
step_more most bound v k x p f h = simp (lt-ltb k 9 p.few, lt-ltb k most f, lt-ltb v (128 ^ k) p.held, le-ltb x 128 h)

-- ---- ranges of the answer

-- a number is within the bound, and more groups follow few
abbrev Ranged : ℕ → ℕ → Option Group → Type 0
Ranged bound k (Some (More w)) = k < 9
Ranged bound k (Some (Last n)) = n ≤ bound
Ranged bound k None = Unit {0}

either : (bound k : ℕ) (t : Bool) (a b : Option Group) → (t ≡ true → Ranged bound k a) → (t ≡ false → Ranged bound k b) → Ranged bound k (cond t a b)
either bound k true a b f g = f refl
either bound k false a b f g = g refl

last_ranged : (bound v k x : ℕ) → Ranged bound k (last_group bound v k x)
unfolding last_group
last_ranged bound v k x =
    either bound k (eqb x 0 && ltb 0 k) None (cond (ltb bound (v + x * 128 ^ k)) None (Some (Last (v + x * 128 ^ k)))) (λ z. tt)
    (λ z. either bound k (ltb bound (v + x * 128 ^ k)) None (Some (Last (v + x * 128 ^ k))) (λ e. tt) (λ e. ltb-false bound (v + x * 128 ^ k) e))

more_ranged : (bound most v k x : ℕ) → k < 9 → Ranged bound k (more_groups most v k x)
unfolding more_groups
more_ranged bound most v k x h = either bound k (ltb (k + 1) most) (Some (More (v + (x - 128) * 128 ^ k))) None (λ z. h) (λ z. tt)

step_ranged : (most bound v k x : ℕ) → Ranged bound k (step_of most bound v k x)
step_ranged most bound v k x = go (cases_lt k 9) (cases_lt k most) (cases_lt v (128 ^ k)) (cases_lt x 128)
  where
    go : (k < 9) ⊎ (9 ≤ k) → (k < most) ⊎ (most ≤ k) → (v < 128 ^ k) ⊎ (128 ^ k ≤ v) → (x < 128) ⊎ (128 ≤ x) → Ranged bound k (step_of most bound v k x)
    go (inl h) (inl f) (inl l) (inl s) = subst (Ranged bound k) (step_last most bound v k x (record { few = h; held = l }) f s) (last_ranged bound v k x)
    go (inl h) (inl f) (inl l) (inr s) = subst (Ranged bound k) (step_more most bound v k x (record { few = h; held = l }) f s) (more_ranged bound most v k x h)
    go (inl h) (inl f) (inr l) s = subst (Ranged bound k) (step_large most bound v k x h f l) tt
    go (inl h) (inr f) l s = subst (Ranged bound k) (step_full most bound v k x f) tt
    go (inr h) f l s = subst (Ranged bound k) (step_many most bound v k x h) tt

pub last_most : (most bound v k x n : ℕ) → step_of most bound v k x ≡ Some (Last n) → n ≤ bound
last_most most bound v k x n e = subst (Ranged bound k) e (step_ranged most bound v k x)

pub more_few : (most bound v k x w : ℕ) → step_of most bound v k x ≡ Some (More w) → k < 9
more_few most bound v k x w e = subst (Ranged bound k) e (step_ranged most bound v k x)

-- a last group is not one that others follow
pub last_not_more : (most bound v k x w : ℕ) → Partial v k → k < most → x < 128 → step_of most bound v k x ≡ Some (More w) → ⊥
unfolding last_group
last_not_more most bound v k x w p f h e = go (eqb x 0 && ltb 0 k) (ltb bound (v + x * 128 ^ k)) (step_last most bound v k x p f h ∙ e)
  where
    go : (t u : Bool) → cond t None (cond u None (Some (Last (v + x * 128 ^ k)))) ≡ Some (More w) → ⊥
    go true u d = let z : ◌≡◌ {A = ℕ} 0 1 = cc in omega arith
    go false true d = let z : ◌≡◌ {A = ℕ} 0 1 = cc in omega arith
    go false false d = let z : ◌≡◌ {A = ℕ} 0 1 = cc in omega arith

-- the promise of a step, from its answer
pub steps : (most bound v k x : ℕ) {r : Option Group} → r ≡ step_of most bound v k x → Steps most bound v k x r
steps most bound v k x e = record { answer = e; values = ap group_values e }
