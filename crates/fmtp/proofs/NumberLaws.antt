-- Reading a number's text gives the number, and only its text does.
use Rattle.std.proofs.Common.{◌≡◌, ◌==◌, ◌&&◌, ℕ, ◌+◌, ◌-◌, ◌*◌, ◌/◌, ◌%◌, ◌^◌, ◌<◌, ◌≤◌, Bool, true, false, List, [], ◌∷◌, ◌++◌, length, decimal, nat_le, refl, sym, ap, ◌∙◌, arith, le-leb, leb-true, ne_eqb, append_assoc, inl, inr, ◌⊎◌, eq-eqb, Option, Some, None}
use Rattle.std.proofs.lemmas.Bool.{and_parts, cases_eq}
use Rattle.std.proofs.lemmas.Bool.Decides.{nat_tests}
use Rattle.std.proofs.lemmas.Option.{some_pair_parts, none-some}
use Rattle.std.proofs.lemmas.Fmt.{decimal_digit, decimal_step, decimal_by_steps}
use Rattle.fmtp.specs.Text.{semicolon}
use Rattle.fmtp.specs.Steps.{Taken, ended, digits_on, take_number}

-- what stands behind an item: nothing, or the `;` in front of another one
pub data Ends : List ℕ → Type 0 where
  nothing : Ends []
  joined : {t : List ℕ} → Ends (semicolon ∷ t)

-- ---- reading a number's text gives the number

-- one more digit
digit_more : (v d : ℕ) (t : List ℕ) → d < 10 → 1 ≤ v * 10 + d → v * 10 + d ≤ 255 → digits_on v ((48 + d) ∷ t) ≡ digits_on (v * 10 + d) t
digit_more v d t l m h =
    let e : 48 + d - 48 ≡ d = omega arith in
    simp (le-leb 48 (48 + d) (omega arith), le-leb (48 + d) 57 (omega arith), e, le-leb 1 (v * 10 + d) m, le-leb (v * 10 + d) 255 h)

-- all its digits
digits_through : (n : ℕ) (t : List ℕ) → 1 ≤ n → n ≤ 255 → digits_on 0 (decimal n ++ t) ≡ digits_on n t
digits_through n t l h =
    decimal_by_steps (λ m ds. 1 ≤ m → m ≤ 255 → (u : List ℕ) → digits_on 0 (ds ++ u) ≡ digits_on m u)
    (λ m k a b u. digit_more 0 m u k (omega arith) (omega arith) ∙ ap (λ (j : ℕ). digits_on j u) (omega arith))
    (λ m ds k r a b u.
    rw (append_assoc ds ((48 + m % 10) ∷ []) u)
    (r (omega arith) (omega arith) ((48 + m % 10) ∷ u) ∙ digit_more (m / 10) (m % 10) u (omega arith) (omega arith) (omega arith) ∙ ap (λ (j : ℕ). digits_on j u) (omega arith)))
    n (omega arith) l h t

digits_end : (n : ℕ) (u : List ℕ) → 1 ≤ n → Ends u → digits_on n u ≡ Some (n, u)
digits_end n u l nothing = simp (ne_eqb n 0 (λ z. omega arith))
digits_end n u l joined = simp (ne_eqb n 0 (λ z. omega arith))

pub number_read : (n : ℕ) (u : List ℕ) → 1 ≤ n → n ≤ 255 → Ends u → take_number (decimal n ++ u) ≡ Some (n, u)
unfolding take_number
number_read n u l h e = digits_through n u l h ∙ digits_end n u l e

-- ---- only a number's text is read as the number

-- the octet x is one more digit
record More (v x : ℕ) (t : List ℕ) (n : ℕ) (u : List ℕ) : Type 0 where
  low : 48 ≤ x
  high : x ≤ 57
  least : 1 ≤ v * 10 + (x - 48)
  most : v * 10 + (x - 48) ≤ 255
  rest : digits_on (v * 10 + (x - 48)) t ≡ Some (n, u)

-- the digits end in front of t
record Ended (v : ℕ) (t : List ℕ) (n : ℕ) (u : List ℕ) : Type 0 where
  some : 1 ≤ v
  number : v ≡ n
  text : t ≡ u

ended_found : (v : ℕ) (t : List ℕ) (n : ℕ) (u : List ℕ) → ended v t ≡ Some (n, u) → Ended v t n u
ended_found v t n u e = go (cases_eq v 0)
  where
    go : (v ≡ 0) ⊎ (v ≡ 0 → ⊥) → Ended v t n u
    go (inl z) = absurd (none-some _ (simp (eq-eqb v 0 z) at e))
    go (inr z) =
        let p = some_pair_parts v n t u (simp (ne_eqb v 0 z) at e) in
        record { some = omega arith; number = p.0; text = p.1 }

digit_found : (v x : ℕ) (t : List ℕ) (n : ℕ) (u : List ℕ) → digits_on v (x ∷ t) ≡ Some (n, u) → Ended v (x ∷ t) n u ⊎ More v x t n u
digit_found v x t n u e = go (nat_le 48 x && nat_le x 57) refl (nat_le 1 (v * 10 + (x - 48)) && nat_le (v * 10 + (x - 48)) 255) refl
  where
    go : (b : Bool) → (nat_le 48 x && nat_le x 57) ≡ b → (c : Bool) → (nat_le 1 (v * 10 + (x - 48)) && nat_le (v * 10 + (x - 48)) 255) ≡ c → Ended v (x ∷ t) n u ⊎ More v x t n u
    go false p c q = inl (ended_found v (x ∷ t) n u (simp p at e))
    go true p false q = absurd (none-some _ (simp (p, q) at e))
    go true p true q =
        let d = and_parts (nat_le 48 x) (nat_le x 57) p in
        let k = and_parts (nat_le 1 (v * 10 + (x - 48))) (nat_le (v * 10 + (x - 48)) 255) q in
        inr
        (record {
          low = leb-true 48 x d.0;
          high = leb-true x 57 d.1;
          least = leb-true 1 (v * 10 + (x - 48)) k.0;
          most = leb-true (v * 10 + (x - 48)) 255 k.1;
          rest = simp (p, q) at e;
        })

-- a text that starts with the number's digits
pub record Numbered (t : List ℕ) (n : ℕ) (u : List ℕ) : Type 0 where
  pub least : 1 ≤ n
  pub most : n ≤ 255
  pub text : t ≡ decimal n ++ u

-- the digits of v stand in front
digits_found : (v : ℕ) (t : List ℕ) (n : ℕ) (u : List ℕ) → 1 ≤ v → v ≤ 255 → digits_on v t ≡ Some (n, u) → Numbered (decimal v ++ t) n u
digits_found v [] n u l h e =
    let f = ended_found v [] n u e in
    record { least = omega (arith, f.some, f.number); most = omega (arith, f.number); text = rw (f.number, f.text) refl }
digits_found v (x ∷ t) n u l h e = go (digit_found v x t n u e) (digits_found (v * 10 + (x - 48)) t n u)
  where
    go : Ended v (x ∷ t) n u ⊎ More v x t n u → (1 ≤ v * 10 + (x - 48) → v * 10 + (x - 48) ≤ 255 → digits_on (v * 10 + (x - 48)) t ≡ Some (n, u) → Numbered (decimal (v * 10 + (x - 48)) ++ t) n u)
        → Numbered (decimal v ++ (x ∷ t)) n u
    go (inl f) r = record { least = omega (arith, f.some, f.number); most = omega (arith, f.number); text = rw (f.number, f.text) refl }
    go (inr m) r =
        let k = r m.least m.most m.rest in
        let d : (v * 10 + (x - 48)) / 10 ≡ v = omega (arith, m.low, m.high) in
        let o : 48 + (v * 10 + (x - 48)) % 10 ≡ x = omega (arith, m.low, m.high) in
        let w : decimal (v * 10 + (x - 48)) ≡ decimal v ++ (x ∷ []) = decimal_step (v * 10 + (x - 48)) (omega arith) (omega (arith, m.most)) ∙ rw (d, o) refl in
        record { least = k.least; most = k.most; text = sym (append_assoc (decimal v) (x ∷ []) t) ∙ ap (λ (l : List ℕ). l ++ t) (sym w) ∙ k.text }

pub number_found : (t : List ℕ) (n : ℕ) (u : List ℕ) → take_number t ≡ Some (n, u) → Numbered t n u
unfolding take_number
number_found [] n u e = absurd (none-some _ e)
number_found (x ∷ t) n u e = go (digit_found 0 x t n u e)
  where
    go : Ended 0 (x ∷ t) n u ⊎ More 0 x t n u → Numbered (x ∷ t) n u
    go (inl f) = absurd (omega (arith, f.some))
    go (inr m) =
        let k = digits_found (0 * 10 + (x - 48)) t n u m.least m.most m.rest in
        let d : 48 + (0 * 10 + (x - 48)) ≡ x = omega (arith, m.low) in
        let w : decimal (0 * 10 + (x - 48)) ≡ x ∷ [] = decimal_digit (0 * 10 + (x - 48)) (omega (arith, m.high)) ∙ ap (λ (y : ℕ). y ∷ []) d in
        record { least = k.least; most = k.most; text = ap (λ (l : List ℕ). l ++ t) (sym w) ∙ k.text }
