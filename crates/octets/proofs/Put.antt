-- Laws of `put`: octets that are stored one after another, singly or in lists, and by a copy.
use mathlib.Core.Path.{◌≡◌, sym, ap, ◌∙◌}
use mathlib.Core.List.{List, [], ◌∷◌, ◌++◌, append_assoc}
use Prim.Native.Nat.{ℕ, suc, ◌+◌, ◌-◌, ◌≤◌, ◌<◌}
use native.Mathlib.Nat.{zero-add, suc-add}
use native.Mathlib.Numerals.{add-one}
use native.Mathlib.Omega.{arith}
use lib.ListN.{length, set, take, drop, length-append, length-set, length-take, length-drop}
use lib.Seq.{paste, sets-eq, set-append_left, set_split, length-take-le, take-append-le, take-take, take_at, drop_at, drop-drop, append_snoc}
use Rattle.octets.specs.Copy.{over}
use Rattle.octets.specs.Put.{put}
use Rattle.octets.proofs.Parts.{into_part}

pub length-put : (xs : List ℕ) (a : ℕ) (ys : List ℕ) → a + length ys ≤ length xs → length (put xs a ys) ≡ length xs
length-put xs a ys h = simp (length-append, length-take, length-drop) (omega arith)

module _ (o : List ℕ) (a : ℕ) (xs : List ℕ) (h : a + length xs ≤ length o) where
  front : length (take a o ++ xs) ≡ a + length xs
  front = length-append (take a o) xs ∙ ap (λ (n : ℕ). n + length xs) (length-take-le a o (omega arith))

  -- what stands before the end of what was put, and behind it
  pub take_put : take (a + length xs) (put o a xs) ≡ take a o ++ xs
  take_put = take_at (take a o ++ xs) (drop (a + length xs) o) (a + length xs) front

  pub drop-put : drop (a + length xs) (put o a xs) ≡ drop (a + length xs) o
  drop-put = drop_at (take a o ++ xs) (drop (a + length xs) o) (a + length xs) front

  -- one behind the other
  pub put-put : (ys : List ℕ) → a + length xs + length ys ≤ length o → put (put o a xs) (a + length xs) ys ≡ put o a (xs ++ ys)
  put-put ys l =
      let e : a + length (xs ++ ys) ≡ a + length xs + length ys = omega (arith, length-append xs ys) in
      let back : drop (a + length xs + length ys) (put o a xs) ≡ drop (a + length (xs ++ ys)) o =
      sym (drop-drop (length ys) (a + length xs) (put o a xs)) ∙ ap (drop (length ys)) drop-put ∙ drop-drop (length ys) (a + length xs) o ∙ ap (λ (n : ℕ). drop n o) (sym e) in
      rw (take_put, back) (ap (λ (l : List ℕ). l ++ drop (a + length (xs ++ ys)) o) (append_assoc (take a o) xs ys))

-- a store
pub put_one : (o : List ℕ) (a v : ℕ) → a < length o → set o a v ≡ put o a (v ∷ [])
put_one o a v h = set_split o a v h ∙ rw (← (append_snoc (take a o) v (drop (suc a) o)), add-one a)

-- a store, and others behind it
pub put-cons : (o : List ℕ) (a v : ℕ) (vs : List ℕ) → a + suc (length vs) ≤ length o → put (set o a v) (a + 1) vs ≡ put o a (v ∷ vs)
put-cons o a v vs h = rw (put_one o a v (omega arith)) (put-put o a (v ∷ []) (omega arith) vs (omega arith))

-- `copy(s, &mut d[a..b])`, where the part has as many places as s has octets; y is what the part is left with
pub put_copy : (s d : List ℕ) (a b : ℕ) {y : List ℕ} → a + length s ≡ b → b ≤ length d → y ≡ over s (take (b - a) (drop a d))
    → take a d ++ (y ++ drop (b - a) (drop a d)) ≡ put d a s
put_copy s d a b q h ey = into_part s d a b q h ey ∙ ap (λ (n : ℕ). take a d ++ s ++ drop n d) (sym q)

-- two stores, one behind the other
pub set_twice : (xs : List ℕ) (a v w : ℕ) → a + 2 ≤ length xs → set (set xs a v) (a + 1) w ≡ put xs a (v ∷ w ∷ [])
set_twice xs a v w h = rw add-one (sets-eq (v ∷ w ∷ []) xs a h)

-- a copy of the first n of s
pub paste-put : (xs s : List ℕ) (a n : ℕ) → n ≤ length s → paste xs a s n ≡ put xs a (take n s)
paste-put xs s a n h = ap (λ (k : ℕ). take a xs ++ take n s ++ drop (a + k) xs) (sym (length-take-le n s h))

pub set-append-add : (xs ys : List ℕ) (i v : ℕ) → set (xs ++ ys) (length xs + i) v ≡ xs ++ set ys i v
set-append-add [] ys i v = ap (λ (k : ℕ). set ys k v) (zero-add i)
set-append-add (x ∷ xs) ys i v = ap (λ (k : ℕ). set (x ∷ (xs ++ ys)) k v) (suc-add (length xs) i) ∙ ap (λ (r : List ℕ). x ∷ r) (set-append-add xs ys i v)

-- a store into what was stored
pub set-put : (xs ys : List ℕ) (a j v : ℕ) → a ≤ length xs → j < length ys → set (put xs a ys) (a + j) v ≡ put xs a (set ys j v)
set-put xs ys a j v h l =
    let n : length (take a xs) ≡ a = length-take-le a xs h in
    set-append_left (take a xs ++ ys) (drop (a + length ys) xs) (a + j) v (omega (arith, length-append (take a xs) ys))
    ∙ ap (λ (k : ℕ). set (take a xs ++ ys) (k + j) v ++ drop (a + length ys) xs) (sym n)
    ∙ ap (λ (r : List ℕ). r ++ drop (a + length ys) xs) (set-append-add (take a xs) ys j v)
    ∙ ap (λ (k : ℕ). take a xs ++ set ys j v ++ drop (a + k) xs) (sym (length-set ys j v))

-- a store just before `rest`, which stands from n on
pub put-before : (xs ys rest : List ℕ) (a n : ℕ) → a + length ys ≡ n → n ≤ length xs → put (take n xs ++ rest) a ys ≡ take a xs ++ (ys ++ rest)
put-before xs ys rest a n e h =
    let m : length (take n xs) ≡ n = length-take-le n xs h in
    let front : take a (take n xs ++ rest) ≡ take a xs = take-append-le a (take n xs) rest (omega arith) ∙ take-take a n xs (omega arith) in
    let back : drop (a + length ys) (take n xs ++ rest) ≡ rest = drop_at (take n xs) rest (a + length ys) (omega arith) in
    rw (front, back) (append_assoc (take a xs) ys rest)
