-- Words that a text starts with, in any letter case: the test of an octet, and what the test of each octet tells.
use Rattle.std.proofs.Common.{◌≡◌, ◌==◌, ◌&&◌, ◌||◌, ◌<◌, Bool, true, false, ℕ, List, [], ◌∷◌, ◌++◌, map, length, take, drop, refl, sym, ap, ◌∙◌, arith, rules, zip, bytes_eq, length-take, length-drop, length-append, ◌+◌, ◌≤◌, Option, Some, None, ◌⊎◌, inl, ltb, ltb-true, take-append-drop, take_at, drop_at, ne_eqb}
use Rattle.std.proofs.lemmas.List.{length-map, drop-drop}
use Rattle.std.proofs.lemmas.Bool.{and_parts}
use Rattle.std.proofs.lemmas.Option.{cond_some}
use Rattle.std.proofs.lemmas.Slice.Eq.{bytes_eq-Decides}
use Rattle.std.proofs.lemmas.Bool.Decides.{nat_tests}
use Rattle.std.specs.Char.{to_ascii_lowercase, to_ascii_uppercase}
use Rattle.std.specs.List.{list_all}
use Rattle.fmtp.specs.Steps.{behind_word}

-- an octet is a word's, or its capital
abbrev pub is_octet : ℕ × ℕ → Bool
is_octet p = p.0 == p.1 || p.0 == to_ascii_uppercase p.1

octet_folds : (x w : ℕ) → to_ascii_lowercase w ≡ w → is_octet (x, w) ≡ (to_ascii_lowercase x == w)
octet_folds x w e = grind (arith, nat_tests)

pub octets_fold : (xs ws : List ℕ) → length xs ≡ length ws → map to_ascii_lowercase ws ≡ ws → list_all is_octet (zip xs ws) ≡ bytes_eq (map to_ascii_lowercase xs) ws
octets_fold [] [] l e = refl
octets_fold [] (w ∷ ws) l e = absurd (cc)
octets_fold (x ∷ xs) [] l e = absurd (cc)
octets_fold (x ∷ xs) (w ∷ ws) l e =
    let h : to_ascii_lowercase w ≡ w = cc in
    let r : list_all is_octet (zip xs ws) ≡ bytes_eq (map to_ascii_lowercase xs) ws = octets_fold xs ws (cc) (cc) in
    rw (octet_folds x w h, r) refl

-- a text that is shorter than the word
short : (xs ws : List ℕ) → length xs < length ws → bytes_eq (map to_ascii_lowercase xs) ws ≡ false
short xs [] l = absurd (omega arith)
short [] (w ∷ ws) l = refl
short (x ∷ xs) (w ∷ ws) l = rw (short xs ws (omega arith)) (search rules)

pub behind_short : (w t : List ℕ) → length t < length w → behind_word w t ≡ None
unfolding behind_word
behind_short w t l =
    let k : length (take (length w) t) < length w = omega (arith, length-take (length w) t) in
    simp (short (take (length w) t) w k)

-- ---- what a word at the start tells of a text, and what a text tells of a word

-- a text that starts with a spelling of the word
pub record Begun (w t u : List ℕ) : Type 0 where
  pub spelling : List ℕ
  pub folds : map to_ascii_lowercase spelling ≡ w
  pub text : t ≡ spelling ++ u

pub behind_found : (w t u : List ℕ) → behind_word w t ≡ Some u → Begun w t u
unfolding behind_word
behind_found w t u e =
    let p = cond_some (bytes_eq (map to_ascii_lowercase (take (length w) t)) w) (drop (length w) t) u e in
    record {
      spelling = take (length w) t;
      folds = (bytes_eq-Decides (map to_ascii_lowercase (take (length w) t)) w).0 p.0;
      text = sym (take-append-drop (length w) t) ∙ ap (λ (l : List ℕ). take (length w) t ++ l) p.1;
    }

pub spelled-length : (s w : List ℕ) → map to_ascii_lowercase s ≡ w → length s ≡ length w
spelled-length s w e = sym (length-map s to_ascii_lowercase) ∙ ap length e

pub behind_read : (w s u : List ℕ) → map to_ascii_lowercase s ≡ w → behind_word w (s ++ u) ≡ Some u
unfolding behind_word
behind_read w s u e =
    let n : length s ≡ length w = spelled-length s w e in
    let b : bytes_eq (map to_ascii_lowercase s) w ≡ true = (bytes_eq-Decides (map to_ascii_lowercase s) w).1 e in
    rw (take_at s u (length w) n, drop_at s u (length w) n, b)

-- a text that starts with another octet
pub behind_other : (w x : ℕ) (ws t : List ℕ) → (to_ascii_lowercase x ≡ w → ⊥) → behind_word (w ∷ ws) (x ∷ t) ≡ None
unfolding behind_word
behind_other w x ws t n = simp (ne_eqb (to_ascii_lowercase x) w n)

-- an octet that is no small letter is folded from itself alone
pub folds_alone : (x w : ℕ) → (w < 97) ⊎ (122 < w) → to_ascii_lowercase x ≡ w → x ≡ w
folds_alone x w l e = grind (arith, nat_tests)

-- so is a word of such octets
pub spelled_alone : (s w : List ℕ) → list_all (λ x. ltb x 97) w ≡ true → map to_ascii_lowercase s ≡ w → s ≡ w
spelled_alone [] w a e = e
spelled_alone (x ∷ s) [] a e = absurd (cc)
spelled_alone (x ∷ s) (y ∷ w) a e =
    let p = and_parts (ltb y 97) (list_all (λ x. ltb x 97) w) a in
    let h : x ≡ y = folds_alone x y (inl (ltb-true y 97 p.0)) (cc) in
    let t : s ≡ w = spelled_alone s w p.1 (cc) in
    cc

-- ---- a list that a text starts with at an index

-- lies in it
pub split_fits : (a t : List ℕ) (at : ℕ) → at ≤ length t → drop at t ≡ a ++ drop (length a) (drop at t) → at + length a ≤ length t
split_fits a t at l e = omega (arith, ap length e, length-append a (drop (length a) (drop at t)), length-drop at t)

-- and what stands behind it is the text from its end on
pub split_ends : (a u t : List ℕ) (at k : ℕ) → at ≤ length t → drop at t ≡ a ++ u → k ≡ length a → (at + k ≤ length t) × (u ≡ drop (at + k) t)
split_ends a u t at k l e f =
    let d : drop k (drop at t) ≡ u = ap (drop k) e ∙ drop_at a u k (sym f) in
    let r : drop (length a) (drop at t) ≡ u = rw f at d in
    (rw f (split_fits a t at l (rw r e)), sym d ∙ drop-drop k at t)
