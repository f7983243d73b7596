-- Decimal numbers: every octet is a digit, how long they are, and further rates behind their commas.
use Rattle.std.proofs.Common.{◌≡◌, ◌⊎◌, inl, inr, ℕ, zero, suc, ◌+◌, ◌/◌, ◌%◌, ◌^◌, ◌<◌, ◌≤◌, ◌&&◌, Bool, true, false, cond, List, [], ◌∷◌, ◌++◌, length, decimal, eqb, ltb, refl, sym, ap, ◌∙◌, arith, length-append, lt-ltb, le-ltb, eq-eqb, ne_eqb}
use Rattle.std.proofs.lemmas.Bool.{and_parts, false≢true}
use Rattle.std.proofs.lemmas.Fmt.{decimal_digit, decimal_step_wide}
use Rattle.std.specs.Fmt.{digits, digits_onto, digit_glyph}
use Rattle.std.specs.List.{list_all}
use Rattle.fmtp.specs.Settings.{is_in}
use Rattle.fmtp.specs.Text.{comma, further_text}

-- ---- every octet is a digit

-- a test that every digit passes, every octet of a decimal does
module _ (f : ℕ → Bool) (h : (d : ℕ) → d < 10 → f (48 + d) ≡ true) where
  onto_every : (k n : ℕ) (ds : List ℕ) → list_all f ds ≡ true → list_all f (digits_onto k 10 false n ds) ≡ true
  onto_every zero n ds r = r
  onto_every (suc k) n ds r = go (eqb (n / 10) 0) (onto_every k (n / 10) (digit_glyph false (n % 10) ∷ ds) more)
    where
      more : list_all f (digit_glyph false (n % 10) ∷ ds) ≡ true
      more = simp (lt-ltb (n % 10) 10 (omega arith), h (n % 10) (omega arith), r)

      go : (b : Bool) → list_all f (digits_onto k 10 false (n / 10) (digit_glyph false (n % 10) ∷ ds)) ≡ true
          → list_all f (cond b (digit_glyph false (n % 10) ∷ ds) (digits_onto k 10 false (n / 10) (digit_glyph false (n % 10) ∷ ds))) ≡ true
      go true m = more
      go false m = m

  decimal_every : (n : ℕ) → list_all f (decimal n) ≡ true
  unfolding digits
  decimal_every n = onto_every 64 n [] refl

abbrev pub is_digit : ℕ → Bool
is_digit x = ltb 47 x && ltb x 58

pub decimal-digits : (n : ℕ) → list_all is_digit (decimal n) ≡ true
decimal-digits n = decimal_every is_digit (λ d l. simp (lt-ltb 47 (48 + d) (omega arith), lt-ltb (48 + d) 58 (omega arith))) n

pub decimal_signs : (n : ℕ) → list_all (λ x. ltb x 97) (decimal n) ≡ true
decimal_signs n = decimal_every (λ x. ltb x 97) (λ d l. lt-ltb (48 + d) 97 (omega arith)) n

-- an octet that fails the test stands nowhere in the text
pub not_in : (f : ℕ → Bool) (x : ℕ) (t : List ℕ) → f x ≡ false → list_all f t ≡ true → is_in x t ≡ false
not_in f x [] e h = refl
not_in f x (y ∷ t) e h =
    let p = and_parts (f y) (list_all f t) h in
    simp (ne_eqb x y (λ q. false≢true (sym e ∙ ap f q ∙ p.0)), not_in f x t e p.1)

-- an octet that is no digit
pub decimal_free : (x n : ℕ) → (x < 48) ⊎ (57 < x) → is_in x (decimal n) ≡ false
decimal_free x n h = not_in is_digit x (decimal n) (go h) (decimal-digits n)
  where
    go : (x < 48) ⊎ (57 < x) → is_digit x ≡ false
    go (inl l) = simp (le-ltb 47 x (omega arith))
    go (inr l) = simp (lt-ltb 47 x (omega arith), le-ltb x 58 (omega arith))

-- ---- there is one at least

onto_more : (k n : ℕ) (ds : List ℕ) → length ds ≤ length (digits_onto k 10 false n ds)
onto_more zero n ds = omega arith
onto_more (suc k) n ds = go (eqb (n / 10) 0) (onto_more k (n / 10) (digit_glyph false (n % 10) ∷ ds))
  where
    go : (b : Bool) → length (digit_glyph false (n % 10) ∷ ds) ≤ length (digits_onto k 10 false (n / 10) (digit_glyph false (n % 10) ∷ ds))
        → length ds ≤ length (cond b (digit_glyph false (n % 10) ∷ ds) (digits_onto k 10 false (n / 10) (digit_glyph false (n % 10) ∷ ds)))
    go true m = omega arith
    go false m = omega arith

pub decimal_pos : (n : ℕ) → 1 ≤ length (decimal n)
unfolding digits
decimal_pos n = go (eqb (n / 10) 0)
  where
    go : (b : Bool) → 1 ≤ length (cond b (digit_glyph false (n % 10) ∷ []) (digits_onto 63 10 false (n / 10) (digit_glyph false (n % 10) ∷ [])))
    go true = omega arith
    go false = onto_more 63 (n / 10) (digit_glyph false (n % 10) ∷ [])

pub decimal_some : (n : ℕ) → decimal n ≡ [] → ⊥
decimal_some n e = omega (arith, ap length e, decimal_pos n)

-- ---- numbers of few digits

pub one_digit : (n : ℕ) → n < 10 → decimal n ≡ (48 + n % 10) ∷ []
one_digit n h =
    let e : n ≡ n % 10 = omega arith in
    decimal_digit n h ∙ ap (λ (d : ℕ). (48 + d) ∷ []) e

-- the last digit stands behind those of the tenth part; not so from 10 ^ 64 on, where std's `decimal` has the last 64 digits of both alone
pub decimal_more : (n : ℕ) → 10 ≤ n → n < 10 ^ 64 → decimal n ≡ decimal (n / 10) ++ ((48 + n % 10) ∷ [])
decimal_more = decimal_step_wide

pub two_digits : (n : ℕ) → 10 ≤ n → n < 100 → decimal n ≡ (48 + n / 10 % 10) ∷ (48 + n % 10) ∷ []
two_digits n l h = rw (decimal_more n l (omega arith), one_digit (n / 10) (omega arith))

pub three_digits : (n : ℕ) → 100 ≤ n → n < 1000 → decimal n ≡ (48 + n / 100 % 10) ∷ (48 + n / 10 % 10) ∷ (48 + n % 10) ∷ []
three_digits n l h =
    let e : n / 10 / 10 ≡ n / 100 = omega arith in
    rw (decimal_more n (omega arith) (omega arith), two_digits (n / 10) (omega arith) (omega arith), e)

-- ---- lengths

pub tenth_long : (n : ℕ) → 10 ≤ n → n < 10 ^ 64 → length (decimal (n / 10)) + 1 ≡ length (decimal n)
tenth_long n l h = omega (arith, ap length (decimal_more n l h), length-append (decimal (n / 10)) ((48 + n % 10) ∷ []))

more_long : (n k : ℕ) → 10 ≤ n → n < 100000 → k ≡ length (decimal (n / 10)) → k + 1 ≡ length (decimal n)
more_long n k l h e = omega (arith, tenth_long n l (omega arith))

pub one_long : (n : ℕ) → n < 10 → 1 ≡ length (decimal n)
one_long n h = ap length (sym (one_digit n h))

pub two_long : (n : ℕ) → 10 ≤ n → n < 100 → 2 ≡ length (decimal n)
two_long n l h = ap length (sym (two_digits n l h))

pub three_long : (n : ℕ) → 100 ≤ n → n < 1000 → 3 ≡ length (decimal n)
three_long n l h = ap length (sym (three_digits n l h))

pub four_long : (n : ℕ) → 1000 ≤ n → n < 10000 → 4 ≡ length (decimal n)
four_long n l h = more_long n 3 (omega arith) (omega arith) (three_long (n / 10) (omega arith) (omega arith))

pub five_long : (n : ℕ) → 10000 ≤ n → n < 100000 → 5 ≡ length (decimal n)
five_long n l h = more_long n 4 (omega arith) h (four_long (n / 10) (omega arith) (omega arith))

pub ruleset lengths = (one_long, two_long, three_long, four_long, five_long)

-- ---- a further rate behind its comma

pub further_none : (r : ℕ) → r ≡ 0 → further_text r ≡ []
unfolding further_text
further_none r e = simp (eq-eqb r 0 e)

pub further_some : (r : ℕ) → (r ≡ 0 → ⊥) → further_text r ≡ comma ∷ decimal r
unfolding further_text
further_some r e = simp (ne_eqb r 0 e)
