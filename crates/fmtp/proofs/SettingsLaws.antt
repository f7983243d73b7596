-- Rates and settings by their cases, out of the tests that define them.
use Rattle.std.proofs.Common.{◌≡◌, ◌⊎◌, ◌&&◌, ◌||◌, ◌≤◌, ℕ, List, [], ◌∷◌, length, decimal, true, false, not, eqb, leb, refl, ap, ◌∙◌, inl, inr, ⊎_elim, arith, eqb-true, leb-true, le-leb}
use Rattle.std.proofs.lemmas.Bool.{false≢true, and_parts, or_cases, not-true, eqb-false}
use Rattle.std.specs.Fmt.{digits}
use Rattle.fmtp.specs.declared.Settings.{Settings}
use Rattle.fmtp.specs.Settings.{is_rate, are_rates, is_tcmax, is_settings, IsSettings, settings_of}

-- ---- a rate is one of three

pub data Rate : ℕ → Type 0 where
  bps2400 : Rate 2400
  bps1200 : Rate 1200
  bps600 : Rate 600

pub rate_cases : (r : ℕ) → is_rate r ≡ true → Rate r
unfolding is_rate
rate_cases r h = ⊎_elim (λ e. rw (eqb-true r 2400 e) bps2400) (λ g. second (or_cases (eqb r 1200) _ g)) (or_cases (eqb r 2400) _ h)
  where
    third : (eqb r 600 ≡ true) ⊎ (false ≡ true) → Rate r
    third (inl e) = rw (eqb-true r 600 e) bps600
    third (inr e) = absurd (false≢true e)

    second : (eqb r 1200 ≡ true) ⊎ ((eqb r 600 || false) ≡ true) → Rate r
    second (inl e) = rw (eqb-true r 1200 e) bps1200
    second (inr e) = third (or_cases (eqb r 600) false e)

-- 0, the number of an unused place, is no rate
pub unused : (r : ℕ) → r ≡ 0 → is_rate r ≡ false
unfolding is_rate
unused r e = rw e

pub rate_range : (r : ℕ) → is_rate r ≡ true → (1 ≤ r) × (r ≤ 2400)
rate_range r h = go (rate_cases r h)
  where
    go : {r : ℕ} → Rate r → (1 ≤ r) × (r ≤ 2400)
    go bps2400 = (omega arith, omega arith)
    go bps1200 = (omega arith, omega arith)
    go bps600 = (omega arith, omega arith)

-- ---- rates are one, two or three

pub data Rates : ℕ → ℕ → ℕ → Type 0 where
  one : {a : ℕ} → is_rate a ≡ true → Rates a 0 0
  two : {a b : ℕ} → is_rate a ≡ true → is_rate b ≡ true → (a ≡ b → ⊥) → Rates a b 0
  three : {a b c : ℕ} → is_rate a ≡ true → is_rate b ≡ true → is_rate c ≡ true → (a ≡ b → ⊥) → (a ≡ c → ⊥) → (b ≡ c → ⊥) → Rates a b c

module _ (a b c : ℕ) where
  first_case : (is_rate a && eqb b 0 && eqb c 0) ≡ true → Rates a b c
  first_case h =
      let p = and_parts (is_rate a && eqb b 0) (eqb c 0) h in
      let q = and_parts (is_rate a) (eqb b 0) p.0 in
      rw (eqb-true b 0 q.1, eqb-true c 0 p.1) (one q.0)

  second_case : (is_rate a && is_rate b && not (eqb a b) && eqb c 0) ≡ true → Rates a b c
  second_case h =
      let p = and_parts (is_rate a && is_rate b && not (eqb a b)) (eqb c 0) h in
      let q = and_parts (is_rate a && is_rate b) (not (eqb a b)) p.0 in
      let r = and_parts (is_rate a) (is_rate b) q.0 in
      rw (eqb-true c 0 p.1) (two r.0 r.1 (eqb-false a b (not-true (eqb a b) q.1)))

  third_case : (is_rate a && is_rate b && is_rate c && not (eqb a b) && not (eqb a c) && not (eqb b c)) ≡ true → Rates a b c
  third_case h =
      let p = and_parts (is_rate a && is_rate b && is_rate c && not (eqb a b) && not (eqb a c)) (not (eqb b c)) h in
      let q = and_parts (is_rate a && is_rate b && is_rate c && not (eqb a b)) (not (eqb a c)) p.0 in
      let r = and_parts (is_rate a && is_rate b && is_rate c) (not (eqb a b)) q.0 in
      let s = and_parts (is_rate a && is_rate b) (is_rate c) r.0 in
      let t = and_parts (is_rate a) (is_rate b) s.0 in
      three t.0 t.1 s.1 (eqb-false a b (not-true (eqb a b) r.1)) (eqb-false a c (not-true (eqb a c) q.1)) (eqb-false b c (not-true (eqb b c) p.1))

  pub rates_cases : are_rates a b c ≡ true → Rates a b c
  unfolding are_rates
  rates_cases h = ⊎_elim (λ g. ⊎_elim first_case second_case (or_cases _ _ g)) third_case (or_cases _ _ h)

-- the places of rates: the first is a rate, each other is a rate or unused
pub first_rate : {a b c : ℕ} → Rates a b c → is_rate a ≡ true
first_rate (one ra) = ra
first_rate (two ra rb ab) = ra
first_rate (three ra rb rc ab ac bc) = ra

pub second_rate : {a b c : ℕ} → Rates a b c → (b ≡ 0 → ⊥) → is_rate b ≡ true
second_rate (one ra) n = absurd (n refl)
second_rate (two ra rb ab) n = rb
second_rate (three ra rb rc ab ac bc) n = rb

pub third_rate : {a b c : ℕ} → Rates a b c → (c ≡ 0 → ⊥) → is_rate c ≡ true
third_rate (one ra) n = absurd (n refl)
third_rate (two ra rb ab) n = absurd (n refl)
third_rate (three ra rb rc ab ac bc) n = rc

-- ---- tcmax and settings

pub tcmax_range : (n : ℕ) → is_tcmax n ≡ true → (1 ≤ n) × (n ≤ 255)
unfolding is_tcmax
tcmax_range n h =
    let p = and_parts (leb 1 n) (leb n 255) h in
    (leb-true 1 n p.0, leb-true n 255 p.1)

pub in_range : (n : ℕ) → 1 ≤ n → n ≤ 255 → is_tcmax n ≡ true
unfolding is_tcmax
in_range n l m = simp (le-leb 1 n l, le-leb n 255 m)

pub settings_parts : (s : Settings) → IsSettings s → (are_rates s.first s.second s.third ≡ true) × (is_tcmax s.tcmax ≡ true)
unfolding is_settings
settings_parts s h = and_parts (are_rates s.first s.second s.third) (is_tcmax s.tcmax) h

pub settings_whole : (a b c n : ℕ) → are_rates a b c ≡ true → is_tcmax n ≡ true → IsSettings (settings_of a b c n)
unfolding is_settings
settings_whole a b c n r t = simp (r, t)
