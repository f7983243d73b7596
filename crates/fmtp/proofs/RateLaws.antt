-- Reading the text of rates gives the rates, and only their text does.
use Rattle.std.proofs.Common.{◌≡◌, ◌==◌, ◌⊎◌, ℕ, ◌+◌, ◌≤◌, length, drop, Bool, true, false, List, [], ◌∷◌, ◌++◌, ltb, decimal, codes, eqb, nat_eq, refl, sym, ap, ◌∙◌, inl, inr, arith, eqb-true, append_assoc, option_map, Option, Some, None}
use Rattle.std.proofs.lemmas.Option.{none-some, some_pair_parts, option_and_then_some}
use Rattle.std.specs.List.{list_all}
use Rattle.std.specs.Fmt.{digits}
use Rattle.fmtp.specs.Settings.{is_rate, are_rates}
use Rattle.fmtp.specs.Text.{comma, further_text, rates_text}
use Rattle.fmtp.specs.Meaning.{Item, bitrate, bitrate_item}
use Rattle.fmtp.specs.Steps.{Taken, behind_word, or_else, take_rate, take_further, take_rates}
use Rattle.fmtp.proofs.SettingsLaws.{Rate, bps2400, bps1200, bps600, rate_cases, rate_range, Rates, one, two, three, rates_cases}
use Rattle.fmtp.proofs.Decimals.{further_none, further_some}
use Rattle.fmtp.proofs.NumberLaws.{Ends, nothing, joined}
use Rattle.fmtp.proofs.Words.{behind_found, behind_read, spelled_alone, split_ends}

-- ---- a rate

pub rate_read : (r : ℕ) (u : List ℕ) → is_rate r ≡ true → take_rate (decimal r ++ u) ≡ Some (r, u)
unfolding take_rate behind_word digits
rate_read r u h = go (rate_cases r h)
  where
    go : {r : ℕ} → Rate r → take_rate (decimal r ++ u) ≡ Some (r, u)
    go bps2400 = refl
    go bps1200 = refl
    go bps600 = refl

-- a text that starts with a rate
pub record Rated (t : List ℕ) (r : ℕ) (u : List ℕ) : Type 0 where
  pub rate : is_rate r ≡ true
  pub text : t ≡ decimal r ++ u

module _ (t : List ℕ) (r : ℕ) (u : List ℕ) where
  -- a text that starts with these digits
  rated : (n : ℕ) (w v : List ℕ) → is_rate n ≡ true → decimal n ≡ w → list_all (λ x. ltb x 97) w ≡ true → behind_word w t ≡ Some v → ◌≡◌ {A = Taken ℕ} (Some (n, v)) (Some (r, u)) → Rated t r u
  rated n w v h d a b e =
      let p = some_pair_parts n r v u e in
      let g = behind_found w t v b in
      let s : g.spelling ≡ decimal n = spelled_alone g.spelling w a g.folds ∙ sym d in
      record { rate = rw (← p.0) h; text = g.text ∙ rw (s, p.0, p.1) refl }

  pub rate_found : take_rate t ≡ Some (r, u) → Rated t r u
  unfolding take_rate is_rate digits
  rate_found e = go (behind_word (codes "2400") t) refl (behind_word (codes "1200") t) refl (behind_word (codes "600") t) refl
    where
      go : (a : Option (List ℕ)) → behind_word (codes "2400") t ≡ a → (b : Option (List ℕ)) → behind_word (codes "1200") t ≡ b → (c : Option (List ℕ)) → behind_word (codes "600") t ≡ c → Rated t r u
      go (Some v) f b g c h = rated 2400 (codes "2400") v refl refl refl f (simp f at e)
      go None f (Some v) g c h = rated 1200 (codes "1200") v refl refl refl g (simp (f, g) at e)
      go None f None g (Some v) h = rated 600 (codes "600") v refl refl refl h (simp (f, g, h) at e)
      go None f None g None h = absurd (none-some _ (simp (f, g, h) at e))

-- ---- a further rate

pub further_read : (r : ℕ) (u : List ℕ) → is_rate r ≡ true → take_further (further_text r ++ u) ≡ Some (r, u)
further_read r u h = rw (further_some r (λ e. omega (arith, (rate_range r h).0))) (rate_read r u h)

pub further_ends : (u : List ℕ) → Ends u → take_further u ≡ Some (0, u)
further_ends u nothing = refl
further_ends u joined = refl

pub further_found : (t : List ℕ) (r : ℕ) (u : List ℕ) → take_further t ≡ Some (r, u) → t ≡ further_text r ++ u
further_found [] r u e = let p = some_pair_parts 0 r [] u e in rw (further_none r (sym p.0)) p.1
further_found (x ∷ t) r u e = go (x == comma) refl
  where
    go : (b : Bool) → (x == comma) ≡ b → x ∷ t ≡ further_text r ++ u
    go false f = let p = some_pair_parts 0 r (x ∷ t) u (simp f at e) in rw (further_none r (sym p.0)) p.1
    go true f =
        let p = rate_found t r u (simp f at e) in
        let c : x ≡ comma = eqb-true x comma f in
        rw (further_some r (λ z. omega (arith, z, (rate_range r p.rate).0)), c) (ap (λ (l : List ℕ). comma ∷ l) p.text)

-- ---- rates that a text has at an index

module _ (t : List ℕ) (at : ℕ) (l : at ≤ length t) (k r : ℕ) (u : List ℕ) where
  -- the rate fits, and what is left is the text behind it
  pub rate_fits : take_rate (drop at t) ≡ Some (r, u) → k ≡ length (decimal r) → (at + k ≤ length t) × (u ≡ drop (at + k) t)
  rate_fits e f = split_ends (decimal r) u t at k l (rate_found (drop at t) r u e).text f

  -- so does a further rate, with its comma
  pub further_fits : take_further (drop at t) ≡ Some (r, u) → k ≡ length (further_text r) → (at + k ≤ length t) × (u ≡ drop (at + k) t)
  further_fits e f = split_ends (further_text r) u t at k l (further_found (drop at t) r u e) f

-- ---- one to three rates

-- rates, one behind the other, and what stands behind them
places_read : (a b c : ℕ) (u : List ℕ) → are_rates a b c ≡ true → is_rate a ≡ true → take_further (further_text b ++ (further_text c ++ u)) ≡ Some (b, further_text c ++ u)
    → take_further (further_text c ++ u) ≡ Some (c, u) → take_rates (rates_text a b c ++ u) ≡ Some (bitrate a b c, u)
unfolding take_rates bitrate_item
places_read a b c u h ra q r =
    let s : rates_text a b c ++ u ≡ decimal a ++ (further_text b ++ (further_text c ++ u)) = simp append_assoc in
    rw s (simp (rate_read a (further_text b ++ (further_text c ++ u)) ra, q, r, h))

module _ (u : List ℕ) (e : Ends u) where
  unused_read : take_further (further_text 0 ++ u) ≡ Some (0, u)
  unused_read = rw (further_none 0 refl) (further_ends u e)

  rates_read' : {a b c : ℕ} → are_rates a b c ≡ true → Rates a b c → take_rates (rates_text a b c ++ u) ≡ Some (bitrate a b c, u)
  rates_read' h (one {a} ra) = places_read a 0 0 u h ra (rw (further_none 0 refl) (further_ends u e)) unused_read
  rates_read' h (two {a} {b} ra rb ab) = places_read a b 0 u h ra (further_read b (further_text 0 ++ u) rb) unused_read
  rates_read' h (three {a} {b} {c} ra rb rc ab ac bc) = places_read a b c u h ra (further_read b (further_text c ++ u) rb) (further_read c u rc)

  pub rates_read : (a b c : ℕ) → are_rates a b c ≡ true → take_rates (rates_text a b c ++ u) ≡ Some (bitrate a b c, u)
  rates_read a b c h = rates_read' h (rates_cases a b c h)

-- a text that starts with one to three different rates
pub record RatesFound (t : List ℕ) (i : Item) (u : List ℕ) : Type 0 where
  pub a : ℕ
  pub b : ℕ
  pub c : ℕ
  pub is : i ≡ bitrate a b c
  pub rates : are_rates a b c ≡ true
  pub text : t ≡ rates_text a b c ++ u

-- the rates are different ones, and the text behind them is what stands behind the last
rates_end : (a b c : ℕ) (v : List ℕ) (i : Item) (u : List ℕ) → option_map {U = Item × List ℕ} (λ j. (j, v)) (bitrate_item a b c) ≡ Some (i, u) → (are_rates a b c ≡ true) × (bitrate a b c ≡ i) × (v ≡ u)
unfolding bitrate_item
rates_end a b c v i u e = go (are_rates a b c) refl
  where
    go : (x : Bool) → are_rates a b c ≡ x → (are_rates a b c ≡ true) × (bitrate a b c ≡ i) × (v ≡ u)
    go false f = absurd (none-some _ (simp f at e))
    go true f = let p = some_pair_parts (bitrate a b c) i v u (simp f at e) in (f, p.0, p.1)

pub rates_found : (t : List ℕ) (i : Item) (u : List ℕ) → take_rates t ≡ Some (i, u) → RatesFound t i u
unfolding take_rates
rates_found t i u e =
    option_and_then_some _ (take_rate t) (i, u) e
    (λ a f e₁. option_and_then_some _ (take_further a.1) (i, u) e₁
    (λ b g e₂. option_and_then_some _ (take_further b.1) (i, u) e₂
    (λ c h e₃.
    let x = rates_end a.0 b.0 c.0 c.1 i u e₃ in
    let p = rate_found t a.0 a.1 f in
    let q : a.1 ≡ further_text b.0 ++ (further_text c.0 ++ u) =
    further_found a.1 b.0 b.1 g ∙ ap (λ (l : List ℕ). further_text b.0 ++ l) (further_found b.1 c.0 c.1 h ∙ ap (λ (l : List ℕ). further_text c.0 ++ l) x.2) in
    record { a = a.0; b = b.0; c = c.0; is = sym x.1; rates = x.0; text = p.text ∙ ap (λ (l : List ℕ). decimal a.0 ++ l) q ∙ simp append_assoc })))
