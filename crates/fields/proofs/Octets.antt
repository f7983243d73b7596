-- Laws of the bits of octets and of the octets that bits make.
use mathlib.Core.Path.{◌≡◌, refl, sym, ap, ◌∙◌}
use mathlib.Core.List.{List, [], ◌∷◌, ◌++◌, reverse, reverse-cons, reverse-reverse}
use Prim.Native.Nat.{ℕ, zero, suc, ◌+◌, ◌-◌, ◌*◌, ◌/◌, ◌%◌, ◌^◌, ◌≤◌, ◌<◌}
use native.Mathlib.Nat.{mod-lt, mod-eq_of_lt, zero-mod, div-eq_of_lt, zero-div, add-div_left, add-mod_left, lt_of_lt_of_le}
use native.Mathlib.Numerals.{add-one}
use native.Mathlib.Decide.{dec_lt}
use native.Mathlib.Omega.{arith}
use lib.ListN.{length, get_or, take, drop, length-append, length-reverse, length-take, length-drop, take-append-drop, get_or-append}
use lib.Seq.{take_at, drop_at, drop-drop, get_or-append-add, get_or-drop, length-take-le}
use lib.Pow.{pow_mono}
use Rattle.std.proofs.lemmas.List.{take-take, drop-take}
use Rattle.fields.specs.Bits.{digits, spelled, bits_of, octets_of}
use Rattle.fields.proofs.Digits.{Bits, length_digits, bits-digits, bits_tail, spelled_lt, spelled-digits, digits-spelled, digits_at}

pub bits-append : (bs cs : List ℕ) → Bits bs → Bits cs → Bits (bs ++ cs)
bits-append [] cs h g i = g i
bits-append (b ∷ bs) cs h g zero = h 0
bits-append (b ∷ bs) cs h g (suc i) = bits-append bs cs (bits_tail b bs h) g i

bits-reverse : (bs : List ℕ) → Bits bs → Bits (reverse bs)
bits-reverse [] h = λ i. omega arith
bits-reverse (b ∷ bs) h = rw reverse-cons (bits-append (reverse bs) (b ∷ []) (bits-reverse bs (bits_tail b bs h)) one)
  where
    one : Bits (b ∷ [])
    one zero = h 0
    one (suc i) = omega arith

bits-take : (n : ℕ) (bs : List ℕ) → Bits bs → Bits (take n bs)
bits-take zero bs h i = omega arith
bits-take (suc n) [] h i = omega arith
bits-take (suc n) (b ∷ bs) h zero = h 0
bits-take (suc n) (b ∷ bs) h (suc i) = bits-take n bs (bits_tail b bs h) i

bits-drop : (n : ℕ) (bs : List ℕ) → Bits bs → Bits (drop n bs)
bits-drop n bs h i = rw get_or-drop (h (n + i))

-- eight bits stand for an octet
pub length_octet : (x : ℕ) → length (reverse (digits 8 x)) ≡ 8
length_octet x = length-reverse (digits 8 x) ∙ length_digits 8 x

pub reversed_lt : (x : ℕ) → spelled (reverse (digits 8 x)) < 256
reversed_lt x = rw (length_octet x) at (spelled_lt (reverse (digits 8 x)) (bits-reverse (digits 8 x) (bits-digits 8 x)))

pub length-bits : (xs : List ℕ) → length (bits_of xs) ≡ 8 * length xs
unfolding bits_of
length-bits [] = refl
length-bits (x ∷ xs) = rw length-append (omega (arith, length_octet x, length-bits xs))

-- one bit, in its octet
pub bit_is : (xs : List ℕ) (p : ℕ) → get_or (bits_of xs) p 0 ≡ get_or xs (p / 8) 0 / 2 ^ (p % 8) % 2
unfolding bits_of
bit_is [] p = rw (zero-div, zero-mod)
bit_is (x ∷ xs) p = go (bit_is xs (p - 8)) (dec_lt p 8)
  where
    go : get_or (bits_of xs) (p - 8) 0 ≡ get_or xs ((p - 8) / 8) 0 / 2 ^ ((p - 8) % 8) % 2 → Dec (p < 8)
        → get_or (reverse (digits 8 x) ++ bits_of xs) p 0 ≡ get_or (x ∷ xs) (p / 8) 0 / 2 ^ (p % 8) % 2
    go ih (yes l) =
        rw (div-eq_of_lt l, mod-eq_of_lt l) (get_or-append (reverse (digits 8 x)) (bits_of xs) 0 p (omega (arith, length_octet x)) ∙ digits_at 8 x p l)
    go ih (no n) =
        let q : ℕ = p - 8 in
        let a : p ≡ length (reverse (digits 8 x)) + q = omega (arith, length_octet x) in
        let b : p ≡ 8 + q = omega arith in
        let d : p / 8 ≡ suc (q / 8) = ap (λ (n : ℕ). n / 8) b ∙ add-div_left q (omega arith) ∙ add-one (q / 8) in
        let m : p % 8 ≡ q % 8 = ap (λ (n : ℕ). n % 8) b ∙ add-mod_left 8 q in
        rw (d, m) (ap (λ (n : ℕ). get_or (reverse (digits 8 x) ++ bits_of xs) n 0) a ∙ get_or-append-add (reverse (digits 8 x)) (bits_of xs) q 0 ∙ ih)

pub bits-bits : (xs : List ℕ) → Bits (bits_of xs)
bits-bits xs i = rw (bit_is xs i) (mod-lt (get_or xs (i / 8) 0 / 2 ^ (i % 8)) (omega arith))

-- octets are those that their bits make
pub octets_bits : (xs : List ℕ) → ((i : ℕ) → get_or xs i 0 < 256) → octets_of (length xs) (bits_of xs) ≡ xs
unfolding bits_of octets_of
octets_bits [] h = refl
octets_bits (x ∷ xs) h =
    let a : take 8 (reverse (digits 8 x) ++ bits_of xs) ≡ reverse (digits 8 x) = take_at (reverse (digits 8 x)) (bits_of xs) 8 (length_octet x) in
    let b : drop 8 (reverse (digits 8 x) ++ bits_of xs) ≡ bits_of xs = drop_at (reverse (digits 8 x)) (bits_of xs) 8 (length_octet x) in
    let c : spelled (reverse (reverse (digits 8 x))) ≡ x = rw (reverse-reverse (digits 8 x)) (spelled-digits 8 x ∙ mod-eq_of_lt (h 0)) in
    rw (a, b, c, octets_bits xs (λ i. h (suc i)))

-- bits are those of the octets that they make
pub bits_octets : (n : ℕ) (bs : List ℕ) → Bits bs → length bs ≡ 8 * n → bits_of (octets_of n bs) ≡ bs
unfolding bits_of octets_of
bits_octets zero [] h e = refl
bits_octets zero (b ∷ bs) h e = absurd (omega arith)
bits_octets (suc n) bs h e =
    let r : List ℕ = reverse (take 8 bs) in
    let l : 8 ≡ length r = sym (length-reverse (take 8 bs) ∙ length-take-le 8 bs (omega arith)) in
    let d : digits 8 (spelled r) ≡ r = ap (λ (k : ℕ). digits k (spelled r)) l ∙ digits-spelled r (bits-reverse (take 8 bs) (bits-take 8 bs h)) in
    let t : bits_of (octets_of n (drop 8 bs)) ≡ drop 8 bs = bits_octets n (drop 8 bs) (bits-drop 8 bs h) (length-drop 8 bs ∙ omega arith) in
    rw (d, reverse-reverse (take 8 bs), t) (take-append-drop 8 bs)

pub length_octets : (n : ℕ) (bs : List ℕ) → length (octets_of n bs) ≡ n
unfolding octets_of
length_octets zero bs = refl
length_octets (suc n) bs = ap suc (length_octets n (drop 8 bs))

-- eight bits make less than 256
octet_small : (bs : List ℕ) → Bits bs → spelled (reverse (take 8 bs)) < 256
octet_small bs h =
    let eight : List ℕ = take 8 bs in
    let l : length (reverse eight) ≤ 8 = omega (arith, length-reverse eight, length-take 8 bs) in
    lt_of_lt_of_le (spelled_lt (reverse eight) (bits-reverse eight (bits-take 8 bs h))) (pow_mono l)

pub octet_lt : (n : ℕ) (bs : List ℕ) → Bits bs → (i : ℕ) → get_or (octets_of n bs) i 0 < 256
unfolding octets_of
octet_lt zero bs h i = omega arith
octet_lt (suc n) bs h zero = octet_small bs h
octet_lt (suc n) bs h (suc i) = octet_lt n (drop 8 bs) (bits-drop 8 bs h) i

-- one octet, of all that bits make
pub octet_at : (n : ℕ) (bs : List ℕ) (i : ℕ) → i < n → get_or (octets_of n bs) i 0 ≡ spelled (reverse (take 8 (drop (8 * i) bs)))
unfolding octets_of
octet_at zero bs i h = absurd (omega arith)
octet_at (suc n) bs zero h = refl
octet_at (suc n) bs (suc i) h =
    let e : 8 + 8 * i ≡ 8 * suc i = omega arith in
    octet_at n (drop 8 bs) i (omega arith) ∙ ap (λ (l : List ℕ). spelled (reverse (take 8 l))) (drop-drop (8 * i) 8 bs ∙ ap (λ (k : ℕ). drop k bs) e)

-- octets are made of the first bits alone
pub octets-take : (n : ℕ) (bs : List ℕ) → octets_of n (take (8 * n) bs) ≡ octets_of n bs
unfolding octets_of
octets-take zero bs = refl
octets-take (suc n) bs =
    let e : 8 * suc n ≡ 8 + 8 * n = omega arith in
    rw (e, take-take 8 (8 + 8 * n) bs (omega arith), drop-take 8 (8 * n) bs, octets-take n (drop 8 bs))
