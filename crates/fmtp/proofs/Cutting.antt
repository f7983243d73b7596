-- Texts cut at a sign: what joining the parts again gives, what cutting joined parts gives, and what each part means.
use Rattle.std.proofs.Common.{◌≡◌, ℕ, Bool, true, false, List, [], ◌∷◌, ◌++◌, map, eqb, refl, sym, ap, ◌∙◌, eq-eqb, ne_eqb, eqb-true, Option, Some, None}
use Rattle.std.proofs.lemmas.Bool.{eqb-false, or_parts}
use Rattle.std.proofs.lemmas.List.Folds.{list_any-append}
use Rattle.std.proofs.lemmas.Option.{none-some}
use Rattle.std.specs.Char.{to_ascii_lowercase}
use Rattle.fmtp.specs.Settings.{is_in}
use Rattle.fmtp.specs.Meaning.{cut, before, behind, each}

-- ---- a sign that does not stand in a text

pub free_append : (x : ℕ) (t u : List ℕ) → is_in x t ≡ false → is_in x u ≡ false → is_in x (t ++ u) ≡ false
free_append x t u h g = simp (list_any-append, h, g)

-- a sign that folds to itself stands in no spelling of a word that does not have it
pub free_spelling : (x : ℕ) (s : List ℕ) → to_ascii_lowercase x ≡ x → is_in x (map to_ascii_lowercase s) ≡ false → is_in x s ≡ false
free_spelling x [] l h = refl
free_spelling x (y ∷ s) l h =
    let p = or_parts (eqb x (to_ascii_lowercase y)) (is_in x (map to_ascii_lowercase s)) h in
    simp (ne_eqb x y (λ e. eqb-false x (to_ascii_lowercase y) p.0 (sym l ∙ ap to_ascii_lowercase e))) (free_spelling x s l p.1)

module _ (sign : ℕ) where
  -- ---- parts cut out of a text

  -- parts joined by the sign
  abbrev pub joined : List ℕ → List (List ℕ) → List ℕ
  joined p [] = p
  joined p (q ∷ ps) = p ++ (sign ∷ joined q ps)

  -- the parts of a text, of which there is one at least, joined are the text
  pub record Parts (t : List ℕ) : Type 0 where
    pub first : List ℕ
    pub more : List (List ℕ)
    pub are : cut sign t ≡ first ∷ more
    pub text : t ≡ joined first more

  joined_ahead : (x : ℕ) (p : List ℕ) (ps : List (List ℕ)) → x ∷ joined p ps ≡ joined (x ∷ p) ps
  joined_ahead x p [] = refl
  joined_ahead x p (q ∷ ps) = refl

  pub parts : (t : List ℕ) → Parts t
  parts [] = record { first = []; more = []; are = refl; text = refl }
  parts (x ∷ t) = go (eqb sign x) refl (parts t)
    where
      go : (b : Bool) → eqb sign x ≡ b → Parts t → Parts (x ∷ t)
      go true e v =
          let f : sign ≡ x = eqb-true sign x e in
          let g : t ≡ joined v.first v.more = v.text in
          record { first = []; more = v.first ∷ v.more; are = simp (e, v.are); text = cc }
      go false e v =
          record { first = x ∷ v.first; more = v.more; are = simp (e, v.are); text = ap (λ (l : List ℕ). x ∷ l) v.text ∙ joined_ahead x v.first v.more }

  -- ---- joined parts cut again

  pub cut_free : (t : List ℕ) → is_in sign t ≡ false → cut sign t ≡ t ∷ []
  cut_free [] h = refl
  cut_free (x ∷ t) h =
      let p = or_parts (eqb sign x) (is_in sign t) h in
      simp (p.0, cut_free t p.1)

  pub cut_at : (t u : List ℕ) → is_in sign t ≡ false → cut sign (t ++ (sign ∷ u)) ≡ t ∷ cut sign u
  cut_at [] u h = simp (eq-eqb sign sign refl)
  cut_at (x ∷ t) u h =
      let p = or_parts (eqb sign x) (is_in sign t) h in
      simp (p.0, cut_at t u p.1)

  -- ---- before and behind the first place

  pub before_at : (t u : List ℕ) → is_in sign t ≡ false → before sign (t ++ (sign ∷ u)) ≡ t
  before_at [] u h = simp (eq-eqb sign sign refl)
  before_at (x ∷ t) u h =
      let p = or_parts (eqb sign x) (is_in sign t) h in
      simp (p.0, before_at t u p.1)

  pub behind_at : (t u : List ℕ) → is_in sign t ≡ false → behind sign (t ++ (sign ∷ u)) ≡ u
  behind_at [] u h = simp (eq-eqb sign sign refl)
  behind_at (x ∷ t) u h =
      let p = or_parts (eqb sign x) (is_in sign t) h in
      simp (p.0, behind_at t u p.1)

  pub both_sides : (t : List ℕ) → (behind sign t ≡ [] → ⊥) → t ≡ before sign t ++ (sign ∷ behind sign t)
  both_sides [] n = absurd (n refl)
  both_sides (x ∷ t) n = go (eqb sign x) refl (both_sides t)
    where
      go : (b : Bool) → eqb sign x ≡ b → ((behind sign t ≡ [] → ⊥) → t ≡ before sign t ++ (sign ∷ behind sign t))
          → x ∷ t ≡ before sign (x ∷ t) ++ (sign ∷ behind sign (x ∷ t))
      go true e r = let f : sign ≡ x = eqb-true sign x e in simp e (cc)
      go false e r = simp e (ap (λ (l : List ℕ). x ∷ l) (r (λ z. n (simp e z))))

-- ---- what each part means

pub data Each {A : Type 0} (f : List ℕ → Option A) : List (List ℕ) → List A → Type 0 where
  nil : Each f [] []
  cons : {p : List ℕ} {ps : List (List ℕ)} {y : A} {ys : List A} → f p ≡ Some y → Each f ps ys → Each f (p ∷ ps) (y ∷ ys)

module _ {A : Type 0} (f : List ℕ → Option A) where
  pub each_read : {ps : List (List ℕ)} {ys : List A} → Each f ps ys → each f ps ≡ Some ys
  each_read nil = refl
  each_read (cons e r) = simp (e, each_read r)

  pub each_found : (ps : List (List ℕ)) (ys : List A) → each f ps ≡ Some ys → Each f ps ys
  each_found [] ys e = let g : ys ≡ [] = cc in rw g nil
  each_found (p ∷ ps) ys e = go (f p) refl (each f ps) refl (each_found ps)
    where
      go : (x : Option A) → f p ≡ x → (xs : Option (List A)) → each f ps ≡ xs → ((zs : List A) → each f ps ≡ Some zs → Each f ps zs) → Each f (p ∷ ps) ys
      go None a xs b r = absurd (none-some ys (simp a at e))
      go (Some y) a None b r = absurd (none-some ys (simp (a, b) at e))
      go (Some y) a (Some zs) b r =
          let g : Some (y ∷ zs) ≡ Some ys = simp (a, b) at e in
          let k : ys ≡ y ∷ zs = cc in
          rw k (cons a (r zs b))
