-- What the loops that count and write a number's groups keep: behind the groups that are done, those of the rest are to come.
use mathlib.Core.Path.{◌≡◌, refl, sym, ap, ◌∙◌}
use mathlib.Core.Logic.{◌⊎◌, inl, inr}
use mathlib.Core.List.{List, [], ◌∷◌, ◌++◌, append_assoc, append-nil}
use Prim.Native.Nat.{ℕ, zero, suc, ◌+◌, ◌-◌, ◌*◌, ◌/◌, ◌%◌, ◌^◌, ◌≤◌, ◌<◌, max}
use native.Mathlib.Nat.{pow-suc, pow-le-pow_right}
use native.Mathlib.Numerals.{add-one}
use native.Mathlib.Omega.{arith}
use lib.ListN.{length, get_or, set, take, drop, length-append, length-drop, drop_of_length-le}
use lib.Seq.{drop-cons, drop-drop, length-take-le}
use borrow.Rule.Slice.PartMut.{put_mid}
use Rattle.std.proofs.lemmas.Bool.{lt-ltb, le-ltb, cases_lt}
use Rattle.std.proofs.lemmas.List.{set_at}
use Rattle.std.proofs.lemmas.Nat.{pow-add}
use Rattle.octets.specs.Put.{put}
use Rattle.leb128.specs.Number.{groups_of}
use Rattle.leb128.specs.Writing.{octets_of, with_number, number_end}
use Rattle.leb128.proofs.Groups.{groups_one, groups_more, groups_same, groups_some, groups_few}

-- any count of groups that is enough gives a number's octets
pub octets_of_lem : (most n : ℕ) → 1 ≤ most → n < 128 ^ most → n < 18446744073709551616 → octets_of n ≡ groups_of most n
unfolding octets_of
octets_of_lem most n some h l = groups_same 10 most n (omega arith) some (omega arith) h

pub octets_some : (n : ℕ) → 1 ≤ length (octets_of n)
unfolding octets_of
octets_some n = groups_some 10 n (omega arith)

pub octets_few : (n : ℕ) → length (octets_of n) ≤ 10
unfolding octets_of
octets_few n = groups_few 10 n

-- ---- the rest of a number, for which `left` groups are enough

record Rest (left rest : ℕ) : Type 0 where
  some : 1 ≤ left
  held : rest < 128 ^ left

rest_start : (n : ℕ) → n < 18446744073709551616 → Rest 10 n
rest_start n h = record { some = omega arith; held = omega arith }

rest_fewer : (left rest : ℕ) → Rest (suc left) rest → 128 ≤ rest → Rest left (rest / 128)
rest_fewer left rest r h = go left (rw (pow-suc 128 left) at r.held)
  where
    go : (i : ℕ) → rest < 128 ^ i * 128 → Rest i (rest / 128)
    go zero l = absurd (omega arith)
    go (suc i) l = record { some = omega arith; held = omega arith }

rest_next : (left rest : ℕ) → Rest left rest → 128 ≤ rest → Rest (left - 1) (rest / 128)
rest_next zero rest r h = absurd (omega (arith, r.some))
rest_next (suc left) rest r h = let e : suc left - 1 ≡ left = omega arith in rw e (rest_fewer left rest r h)

rest_more : (left rest : ℕ) → Rest left rest → 128 ≤ rest → groups_of left rest ≡ (128 + rest % 128) ∷ groups_of (left - 1) (rest / 128)
rest_more zero rest r h = absurd (omega (arith, r.some))
rest_more (suc left) rest r h = let e : suc left - 1 ≡ left = omega arith in rw e (groups_more left rest h)

rest_last : (left rest : ℕ) → Rest left rest → rest < 128 → groups_of left rest ≡ rest ∷ []
rest_last zero rest r h = absurd (omega (arith, r.some))
rest_last (suc left) rest r h = groups_one left rest h

-- ---- counting

-- the groups of a number, by its highest bit
count_groups : (j n k : ℕ) → 1 ≤ j → n < 128 ^ j → 2 ^ k ≤ max n 1 → max n 1 < 2 * 2 ^ k → length (groups_of j n) ≡ 1 + k / 7
count_groups zero n k some h low high = absurd (omega arith)
count_groups (suc j) n k some h low high = go (count_groups j (n / 128) (k - 7)) (cases_lt n 128) (cases_lt k 7)
  where
    go : (1 ≤ j → n / 128 < 128 ^ j → 2 ^ (k - 7) ≤ max (n / 128) 1 → max (n / 128) 1 < 2 * 2 ^ (k - 7) → length (groups_of j (n / 128)) ≡ 1 + (k - 7) / 7)
        → (n < 128) ⊎ (128 ≤ n) → (k < 7) ⊎ (7 ≤ k) → length (groups_of (suc j) n) ≡ 1 + k / 7
    go ih (inl l) (inl s) = rw (groups_one j n l) (omega arith)
    go ih (inl l) (inr s) = absurd (omega (arith, pow-le-pow_right {n = 2} (omega arith) {i = 7} {j = k} s))
    go ih (inr l) (inl s) = absurd (omega (arith, pow-le-pow_right {n = 2} (omega arith) {i = k} {j = 6} (omega arith)))
    go ih (inr l) (inr s) =
        let next = rest_fewer j n (record { some = some; held = h }) l in
        let e : 2 ^ k ≡ 2 ^ (k - 7) * 128 = let f : k ≡ k - 7 + 7 = omega arith in ap (λ (i : ℕ). 2 ^ i) f ∙ pow-add 2 (k - 7) 7 in
        let i = ih next.some next.held (omega arith) (omega arith) in
        rw (groups_more j n l) (omega (arith, i))

pub size_lem : (n m k : ℕ) → n < 18446744073709551616 → m ≡ max n 1 → 2 ^ k ≤ m → m < 2 * 2 ^ k → 1 + k / 7 ≡ length (octets_of n)
unfolding octets_of
size_lem n m k h e low high = sym (count_groups 10 n k (omega arith) (omega arith) (omega arith) (omega arith))

-- ---- writing: the octets s, one fewer than the number n has, are to be its groups but the last; e is what they are with k of them written, and
-- `rest` has the groups that are left

pub record Writes (n : ℕ) (s : List ℕ) (rest : ℕ) (e : List ℕ) (k : ℕ) : Type 0 where
  left : ℕ
  more : Rest left rest
  done : List ℕ
  text : octets_of n ≡ done ++ groups_of left rest
  as_many : length done ≡ k
  put : e ≡ done ++ drop k s
  size : suc (length s) ≡ length (octets_of n)

pub writes_start : (n : ℕ) (s : List ℕ) → n < 18446744073709551616 → suc (length s) ≡ length (octets_of n) → Writes n s n s 0
unfolding octets_of
writes_start n s h e = record { left = 10; more = rest_start n h; done = []; text = refl; as_many = refl; put = refl; size = e }

module _ {n : ℕ} {s : List ℕ} {rest : ℕ} {e : List ℕ} {k : ℕ} (w : Writes n s rest e k) where
  to_go : length (groups_of w.left rest) + k ≡ suc (length s)
  to_go = omega (arith, ap length w.text, length-append w.done (groups_of w.left rest), w.as_many, w.size)

  goes_on : k < length s → (rest < 128) ⊎ (128 ≤ rest) → 128 ≤ rest
  goes_on h (inl l) = absurd (omega (arith, to_go, ap length (rest_last w.left rest w.more l)))
  goes_on h (inr l) = l

  pub writes_next : k < length s → Writes n s (rest / 128) (set e k (128 + rest % 128)) (k + 1)
  writes_next h =
      let l : 128 ≤ rest = goes_on h (cases_lt rest 128) in
      let x : ℕ = 128 + rest % 128 in
      let ys : List ℕ = groups_of (w.left - 1) (rest / 128) in
      let d : drop k s ≡ get_or s k 0 ∷ drop (k + 1) s = rw add-one (drop-cons s k 0 h) in
      record {
        left = w.left - 1;
        more = rest_next w.left rest w.more l;
        done = w.done ++ (x ∷ []);
        text = rw append_assoc (rw (rest_more w.left rest w.more l) at w.text);
        as_many = omega (arith, length-append w.done (x ∷ []), w.as_many);
        put = rw (w.put, d, set_at w.done (get_or s k 0) (drop (k + 1) s) x k w.as_many, append_assoc) refl;
        size = w.size;
      }

  ends : length s ≤ k → (rest < 128) ⊎ (128 ≤ rest) → rest < 128
  ends h (inl l) = l
  ends h (inr l) =
      let r = rest_next w.left rest w.more l in
      absurd (omega (arith, to_go, ap length (rest_more w.left rest w.more l), groups_some (w.left - 1) (rest / 128) r.some))

  pub writes_end : length s ≤ k → (rest < 128) × (octets_of n ≡ e ++ (rest ∷ []))
  writes_end h =
      let l : rest < 128 = ends h (cases_lt rest 128) in
      (l, rw (w.put, drop_of_length-le s h, append-nil) (rw (rest_last w.left rest w.more l) at w.text))

-- the octets e at the index a, and then the last one behind them
pub last_put : (o : List ℕ) (a i : ℕ) (e : List ℕ) (x : ℕ) → length e ≡ i - a → a ≤ i → i < length o → set (put_mid a (i - a) o e) i x ≡ put o a (e ++ (x ∷ []))
last_put o a i e x le l h =
    let m : a + (i - a) ≡ i = omega arith in
    let d : drop (i - a) (drop a o) ≡ get_or o i 0 ∷ drop (i + 1) o = rw (drop-drop, m, add-one) (drop-cons o i 0 h) in
    let f : length (take a o ++ e) ≡ i = omega (arith, length-append (take a o) e, length-take-le a o (omega arith)) in
    let z : a + length (e ++ (x ∷ [])) ≡ i + 1 = omega (arith, length-append e (x ∷ [])) in
    rw (d, ← (append_assoc (take a o) e (get_or o i 0 ∷ drop (i + 1) o)), set_at (take a o ++ e) (get_or o i 0) (drop (i + 1) o) x i f, z)
    (simp append_assoc)

-- ---- with room, and without

module _ (o : List ℕ) (a n : ℕ) where
  pub no_room : {s : ℕ} → s ≡ length (octets_of n) → length o - a < s → (o ≡ with_number o a n) × (a ≡ number_end o a n)
  unfolding with_number number_end
  no_room e h =
      let l : length o - a < length (octets_of n) = omega arith in
      (simp (lt-ltb (length o - a) (length (octets_of n)) l), simp (lt-ltb (length o - a) (length (octets_of n)) l))

  pub room : a ≤ length o → length (octets_of n) ≤ length o - a → (put o a (octets_of n) ≡ with_number o a n) × (a + length (octets_of n) ≡ number_end o a n)
  unfolding with_number number_end
  room s h = (simp (le-ltb (length o - a) (length (octets_of n)) h), simp (le-ltb (length o - a) (length (octets_of n)) h))

-- ---- `put_number`, where there is room

module _ (o : List ℕ) (a n : ℕ) {size : ℕ} (es : size ≡ length (octets_of n)) (within : a ≤ length o) (fits : size ≤ length o - a) where
  -- the places of all its octets but the last
  abbrev front : List ℕ
  front = take (a + size - 1 - a) (drop a o)

  pub front_size : suc (length front) ≡ length (octets_of n)
  front_size = omega (arith, octets_some n, length-take-le (a + size - 1 - a) (drop a o) (omega (arith, length-drop a o)))

  pub last_within : (e : List ℕ) → length e ≡ length front → a + size - 1 < length (put_mid a (a + size - 1 - a) o e)
  last_within e l =
      simp (length-append, length-drop) (omega (arith, front_size, octets_some n, length-take-le a o within))

  pub number_put : {rest : ℕ} {e : List ℕ} {k : ℕ} → Writes n front rest e k → length front ≤ k → length e ≡ length front
      → (set (put_mid a (a + size - 1 - a) o e) (a + size - 1) rest ≡ with_number o a n) × (a + size - 1 + 1 ≡ number_end o a n)
  number_put {rest} {e} w h l =
      let p = room o a n within (omega arith) in
      let s = octets_some n in
      (last_put o a (a + size - 1) e rest (omega (arith, front_size)) (omega arith) (omega arith) ∙ ap (put o a) (sym (writes_end w h).1) ∙ p.0, omega (arith, p.1))
