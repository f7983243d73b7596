-- Lines differ, whatever their numbers: that of a refused payload from that of any accepted one and of any other refusal, and that of a
-- payload with frames from that of an empty one.
use mathlib.Core.Path.{◌≡◌, refl, sym, ap, ◌∙◌}
use mathlib.Core.Logic.{◌⊎◌, inl, inr}
use mathlib.Core.List.{List, [], ◌∷◌, ◌++◌, append_assoc}
use Prim.Native.Nat.{ℕ, zero, suc, ◌+◌, ◌/◌, ◌%◌, ◌≤◌, ◌<◌}
use native.Mathlib.Omega.{arith}
use lib.ListN.{length}
use Rattle.refusal.specs.Numbers.{number_of}
use Rattle.refusal.specs.declared.Reason.{Reason}
use Rattle.refusal.proofs.NumberLaws.{number_of-most, number_of-injective}
use Rattle.wire.specs.Frame.{Frame}
use Rattle.clock.specs.Time.{ticks_of}
use Rattle.wire.specs.Walk.{Walk, at, refused, read_of}
use Rattle.wire.specs.declared.Framing.TheVariants.{Unframed}
use Rattle.octets.proofs.Order.{below_or}
use Rattle.listing.specs.Line.{digits, decimal, ok_word, refused_word, numbered, line_with, line_of, payload_line}
use Rattle.listing.proofs.Digits.{digits_one, digits_more, value_from, decimal_value}

-- every octet is a digit, or beyond one
abbrev NoSpace : List ℕ → Type 0
NoSpace [] = Unit {0}
NoSpace (d ∷ ds) = (48 ≤ d) × NoSpace ds

both : (xs ys : List ℕ) → NoSpace xs → NoSpace ys → NoSpace (xs ++ ys)
both [] ys a b = b
both (x ∷ xs) ys a b = (a.0, both xs ys a.1 b)

digits_plain : (k n : ℕ) → NoSpace (digits k n)
digits_plain zero n = tt
digits_plain (suc k) n = go (digits_plain k (n / 10)) (below_or n 10)
  where
    go : NoSpace (digits k (n / 10)) → (n < 10) ⊎ (10 ≤ n) → NoSpace (digits (suc k) n)
    go ih (inl h) = rw (digits_one k n h) (omega arith, tt)
    go ih (inr h) = rw (digits_more k n h) (both (digits k (n / 10)) ((48 + n % 10) ∷ []) ih (omega arith, tt))

decimal_plain : (n : ℕ) → NoSpace (decimal n)
unfolding decimal
decimal_plain n = digits_plain 20 n

-- what stands behind the first space
behind_space : (ds es xs ys : List ℕ) → NoSpace ds → NoSpace es → ds ++ (32 ∷ xs) ≡ es ++ (32 ∷ ys) → xs ≡ ys
behind_space [] [] xs ys a b q = cc
behind_space [] (e ∷ es) xs ys a b q = absurd (let z : 32 ≡ e = cc in omega (arith, b.0))
behind_space (d ∷ ds) [] xs ys a b q = absurd (let z : d ≡ 32 = cc in omega (arith, a.0))
behind_space (d ∷ ds) (e ∷ es) xs ys a b q = behind_space ds es xs ys a.1 b.1 (let z : ds ++ (32 ∷ xs) ≡ es ++ (32 ∷ ys) = cc in z)

-- what stands before it
before_space : (ds es xs ys : List ℕ) → NoSpace ds → NoSpace es → ds ++ (32 ∷ xs) ≡ es ++ (32 ∷ ys) → ds ≡ es
before_space [] [] xs ys a b q = refl
before_space [] (e ∷ es) xs ys a b q = absurd (let z : 32 ≡ e = cc in omega (arith, b.0))
before_space (d ∷ ds) [] xs ys a b q = absurd (let z : d ≡ 32 = cc in omega (arith, a.0))
before_space (d ∷ ds) (e ∷ es) xs ys a b q =
    let z : d ≡ e = cc in
    let w : ds ≡ es = before_space ds es xs ys a.1 b.1 (let y : ds ++ (32 ∷ xs) ≡ es ++ (32 ∷ ys) = cc in y) in
    cc

-- what stands behind a word
behind_word : (w xs ys : List ℕ) → w ++ xs ≡ w ++ ys → xs ≡ ys
behind_word [] xs ys q = q
behind_word (d ∷ w) xs ys q = behind_word w xs ys (let z : w ++ xs ≡ w ++ ys = cc in z)

-- a line from its first number on
line_parts : (n : ℕ) (w : List ℕ) (a b : ℕ) → line_with n w a b ≡ decimal n ++ (w ++ (decimal a ++ (32 ∷ (decimal b ++ (10 ∷ [])))))
line_parts n w a b =
    append_assoc (decimal n ++ numbered w a) (numbered (32 ∷ []) b) (10 ∷ [])
    ∙ append_assoc (decimal n) (numbered w a) (32 ∷ (decimal b ++ (10 ∷ [])))
    ∙ ap (λ (l : List ℕ). decimal n ++ l) (append_assoc w (decimal a) (32 ∷ (decimal b ++ (10 ∷ []))))

lines_differ : (n m a b x y : ℕ) → line_with n refused_word a b ≡ line_with m ok_word x y → ⊥
lines_differ n m a b x y q =
    let r = behind_space (decimal n) (decimal m) _ _ (decimal_plain n) (decimal_plain m) (sym (line_parts n refused_word a b) ∙ q ∙ line_parts m ok_word x y) in
    let z : ◌≡◌ {A = ℕ} 114 111 = cc in
    omega arith

-- the line of a payload that is refused is that of no accepted one, whatever the numbers of the two
pub refused_line : (p q : List ℕ) (n m : ℕ) (reason : Reason) (place u : ℕ) (behind fs : List Frame) → read_of Unframed p ≡ refused reason place behind → read_of Unframed q ≡ at u fs
    → payload_line n p ≡ payload_line m q → ⊥
refused_line p q n m reason place u behind fs ep eq e =
    lines_differ n m (number_of reason) place (length fs) (ticks_of fs) (sym (ap (line_of n) ep) ∙ e ∙ ap (line_of m) eq)

-- an empty payload among them
pub refused_not_empty : (p : List ℕ) (n m : ℕ) (reason : Reason) (place : ℕ) (behind : List Frame) → read_of Unframed p ≡ refused reason place behind → payload_line n p ≡ payload_line m [] → ⊥
unfolding read_of
refused_not_empty p n m reason place behind ep e = refused_line p [] n m reason place 0 behind [] ep refl e

-- two lines with the same word: the same number behind it
same_number : (w : List ℕ) (n m a b x y : ℕ) → a < 18446744073709551616 → x < 18446744073709551616 → line_with n (32 ∷ w) a b ≡ line_with m (32 ∷ w) x y → a ≡ x
same_number w n m a b x y la lx q =
    let r = behind_space (decimal n) (decimal m) _ _ (decimal_plain n) (decimal_plain m) (sym (line_parts n (32 ∷ w) a b) ∙ q ∙ line_parts m (32 ∷ w) x y) in
    let s : decimal a ++ (32 ∷ (decimal b ++ (10 ∷ []))) ≡ decimal x ++ (32 ∷ (decimal y ++ (10 ∷ []))) = behind_word w _ _ r in
    let d : decimal a ≡ decimal x = before_space (decimal a) (decimal x) _ _ (decimal_plain a) (decimal_plain x) s in
    sym (decimal_value a la) ∙ ap (value_from 0) d ∙ decimal_value x lx

pub frames_not_empty : (p : List ℕ) (n m : ℕ) (fs : List Frame) → read_of Unframed p ≡ at 0 fs → 1 ≤ length fs → length fs ≤ 200
    → payload_line n p ≡ payload_line m [] → ⊥
unfolding read_of
frames_not_empty p n m fs ep h l e =
    let z : length fs ≡ 0 = same_number (111 ∷ 107 ∷ 32 ∷ []) n m (length fs) (ticks_of fs) 0 0 (omega arith) (omega arith) (sym (ap (line_of n) ep) ∙ e) in
    omega arith

-- a payload whose line is that of a refusal is refused by its number
pub line_number : (p : List ℕ) (n m k place : ℕ) → k < 18446744073709551616 → payload_line n p ≡ line_with m refused_word k place
    → (r : Reason) × (q : ℕ) × (behind : List Frame) × (number_of r ≡ k) × (read_of Unframed p ≡ refused r q behind)
line_number p n m k place h e = go (read_of Unframed p) refl e
  where
    go : (w : Walk) → read_of Unframed p ≡ w → line_of n w ≡ line_with m refused_word k place
        → (r : Reason) × (q : ℕ) × (behind : List Frame) × (number_of r ≡ k) × (read_of Unframed p ≡ refused r q behind)
    go (at u fs) q d = absurd (lines_differ m n k place (length fs) (ticks_of fs) (sym d))
    go (refused r i behind) q d =
        let z : number_of r ≡ k = same_number (114 ∷ 101 ∷ 102 ∷ 117 ∷ 115 ∷ 101 ∷ 100 ∷ 32 ∷ []) n m (number_of r) i k place (omega (arith, number_of-most r)) h d in
        (r, i, behind, z, q)

-- and for its reason
pub line_refusal : (p : List ℕ) (n m : ℕ) (reason : Reason) (place : ℕ) → payload_line n p ≡ line_with m refused_word (number_of reason) place
    → (q : ℕ) × (behind : List Frame) × (read_of Unframed p ≡ refused reason q behind)
line_refusal p n m reason place e =
    let x = line_number p n m (number_of reason) place (omega (arith, number_of-most reason)) e in
    (x.1, x.2, x.4 ∙ ap (λ (y : Reason). refused y x.1 x.2) (number_of-injective x.0 reason x.3))
