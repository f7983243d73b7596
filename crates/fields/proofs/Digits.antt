-- Laws of the bits of a number and of the number that bits spell, highest first.
use mathlib.Core.Path.{◌≡◌, refl, sym, ap, ◌∙◌}
use mathlib.Core.List.{List, [], ◌∷◌, ◌++◌, reverse, reverse-cons}
use Prim.Native.Nat.{ℕ, zero, suc, ◌+◌, ◌-◌, ◌*◌, ◌/◌, ◌%◌, ◌^◌, ◌≤◌, ◌<◌}
use native.Mathlib.Nat.{mod-lt, mod-one, mod-eq_of_lt, mul_assoc, add-mul, zero-add, add_comm, suc-add, mul-add-div_right, mul-add-mod_self_right, pow-succ'}
use native.Mathlib.Numerals.{one-add}
use native.Mathlib.Decide.{dec_lt}
use native.Mathlib.Omega.{arith}
use lib.ListN.{length, get_or, take, drop, length-append, length-reverse, get_or-append}
use lib.Arith.{digits_lt}
use lib.Pow.{pow_pos, pow-add, mod-pow-add, high, shr-shr}
use lib.Seq.{get_or_at}
use Rattle.fields.specs.Bits.{digits, spelled}

-- each element is a bit
abbrev pub Bits : List ℕ → Type 0
Bits bs = (i : ℕ) → get_or bs i 0 < 2

pub length_digits : (w v : ℕ) → length (digits w v) ≡ w
unfolding digits
length_digits zero v = refl
length_digits (suc w) v = ap suc (length_digits w v)

pub bits-digits : (w v : ℕ) → Bits (digits w v)
unfolding digits
bits-digits zero v i = omega arith
bits-digits (suc w) v zero = mod-lt (v / 2 ^ w) (omega arith)
bits-digits (suc w) v (suc i) = bits-digits w v i

pub bits_tail : (b : ℕ) (bs : List ℕ) → Bits (b ∷ bs) → Bits bs
bits_tail b bs h i = h (suc i)

pub spelled_lt : (bs : List ℕ) → Bits bs → spelled bs < 2 ^ length bs
unfolding spelled
spelled_lt [] h = omega arith
spelled_lt (b ∷ bs) h = rw pow-succ' (digits_lt (h 0) (spelled_lt bs (bits_tail b bs h)))

-- the lowest w bits of a number spell its remainder
pub spelled-digits : (w v : ℕ) → spelled (digits w v) ≡ v % 2 ^ w
unfolding digits spelled
spelled-digits zero v = sym (mod-one v)
spelled-digits (suc w) v = rw (length_digits w v, spelled-digits w v, ← (one-add w)) (sym (mod-pow-add v 1 w))

-- bits above the lowest w make no difference to them
digits_above : (w k a v : ℕ) → w ≤ k → digits w (a * 2 ^ k + v) ≡ digits w v
unfolding digits
digits_above zero k a v h = refl
digits_above (suc w) k a v h =
    let j : ℕ = k - suc w in
    let e : j + 1 + w ≡ k = omega arith in
    let q : a * 2 ^ k ≡ a * 2 ^ j * 2 * 2 ^ w = ap (λ (n : ℕ). a * 2 ^ n) (sym e) ∙ simp (pow-add, mul_assoc) in
    let d : (a * 2 ^ k + v) / 2 ^ w ≡ a * 2 ^ j * 2 + v / 2 ^ w = rw q (mul-add-div_right (pow_pos w) (a * 2 ^ j * 2) v) in
    let m : (a * 2 ^ j * 2 + v / 2 ^ w) % 2 ≡ v / 2 ^ w % 2 = mul-add-mod_self_right (a * 2 ^ j) 2 (v / 2 ^ w) in
    let t : digits w (a * 2 ^ k + v) ≡ digits w v = digits_above w k a v (omega arith) in
    rw (d, m, t)

pub digits-spelled : (bs : List ℕ) → Bits bs → digits (length bs) (spelled bs) ≡ bs
unfolding digits spelled
digits-spelled [] h = refl
digits-spelled (b ∷ bs) h =
    let l = bits_tail b bs h in
    let a : (b * 2 ^ length bs + spelled bs) / 2 ^ length bs ≡ b = high b (length bs) (spelled_lt bs l) in
    let m : b % 2 ≡ b = mod-eq_of_lt (h 0) in
    let t : digits (length bs) (b * 2 ^ length bs + spelled bs) ≡ bs =
    digits_above (length bs) (length bs) b (spelled bs) (omega arith) ∙ digits-spelled bs l in
    rw (a, m, t)

-- bit k of a number
pub digits_at : (w v k : ℕ) → k < w → get_or (reverse (digits w v)) k 0 ≡ v / 2 ^ k % 2
unfolding digits
digits_at zero v k h = absurd (omega arith)
digits_at (suc w) v k h = ap (λ (l : List ℕ). get_or l k 0) (reverse-cons (v / 2 ^ w % 2) (digits w v)) ∙ go (digits_at w v k) (dec_lt k w)
  where
    as_many : length (reverse (digits w v)) ≡ w
    as_many = length-reverse (digits w v) ∙ length_digits w v

    go : (k < w → get_or (reverse (digits w v)) k 0 ≡ v / 2 ^ k % 2) → Dec (k < w)
        → get_or (reverse (digits w v) ++ (v / 2 ^ w % 2 ∷ [])) k 0 ≡ v / 2 ^ k % 2
    go ih (yes l) = get_or-append (reverse (digits w v)) (v / 2 ^ w % 2 ∷ []) 0 k (omega (arith, as_many)) ∙ ih l
    go ih (no n) =
        let e : w ≡ k = omega arith in
        get_or_at (reverse (digits w v)) (v / 2 ^ w % 2) [] 0 k (as_many ∙ e) ∙ ap (λ (j : ℕ). v / 2 ^ j % 2) e

-- bits behind others
drop-digits : (k w v : ℕ) → drop k (digits (k + w) v) ≡ digits w v
unfolding digits
drop-digits zero w v = ap (λ (n : ℕ). digits n v) (zero-add w)
drop-digits (suc k) w v = ap (λ (n : ℕ). drop (suc k) (digits n v)) (suc-add k w) ∙ drop-digits k w v

-- bits in front of others
pub take-digits : (w k v : ℕ) → take w (digits (w + k) v) ≡ digits w (v / 2 ^ k)
unfolding digits
take-digits zero k v = refl
take-digits (suc w) k v =
    let s : v / 2 ^ (w + k) ≡ v / 2 ^ k / 2 ^ w = ap (λ (n : ℕ). v / 2 ^ n) (add_comm w k) ∙ sym (shr-shr v k w) in
    ap (λ (n : ℕ). take (suc w) (digits n v)) (suc-add w k) ∙ rw (s, take-digits w k v)

-- n of the bits of a number, behind the first ones and in front of k others
pub digits-part : (w v at n k : ℕ) → at + (n + k) ≡ w → take n (drop at (digits w v)) ≡ digits n (v / 2 ^ k)
digits-part w v at n k e = rw (sym e, drop-digits at (n + k) v) (take-digits n k v)

pub digits_mod : (w v : ℕ) → digits w (v % 2 ^ w) ≡ digits w v
digits_mod w v =
    ap (digits w) (sym (spelled-digits w v))
    ∙ ap (λ (n : ℕ). digits n (spelled (digits w v))) (sym (length_digits w v))
    ∙ digits-spelled (digits w v) (bits-digits w v)

pub spelled-append : (bs cs : List ℕ) → spelled (bs ++ cs) ≡ spelled bs * 2 ^ length cs + spelled cs
unfolding spelled
spelled-append [] cs = omega arith
spelled-append (b ∷ bs) cs =
    let p : b * 2 ^ length (bs ++ cs) ≡ b * 2 ^ length bs * 2 ^ length cs = simp (length-append, pow-add, mul_assoc) in
    omega (arith, p, spelled-append bs cs, add-mul (b * 2 ^ length bs) (spelled bs) (2 ^ length cs))

-- the number that some of the bits spell, out of the one that all spell
pub spelled-part : (bs : List ℕ) → Bits bs → (at n k : ℕ) → at + (n + k) ≡ length bs → spelled (take n (drop at bs)) ≡ spelled bs / 2 ^ k % 2 ^ n
spelled-part bs h at n k e =
    ap (λ (ds : List ℕ). spelled (take n (drop at ds))) (sym (digits-spelled bs h))
    ∙ ap spelled (digits-part (length bs) (spelled bs) at n k e) ∙ spelled-digits n (spelled bs / 2 ^ k)
