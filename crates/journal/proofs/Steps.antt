-- One number, and the body: what reading comes to there, from its cases and back.
use mathlib.Core.Path.{◌≡◌, refl, sym, ap, ◌∙◌, subst}
use mathlib.Core.Logic.{◌⊎◌, inl, inr}
use mathlib.Core.Bool.{Bool, true, false, cond}
use mathlib.Core.List.{List, [], ◌++◌, append-nil}
use Prim.Native.Nat.{ℕ, ◌≤◌, ◌<◌}
use native.Mathlib.Omega.{arith}
use borrow.Author.Tests.{lt-ltb, le-ltb}
use lib.Dec.{ltb}
use lib.ListN.{length, take, drop, length-append}
use lib.Seq.{take_at, drop_at}
use Rattle.std.specs.Prelude.{Ok, Err}
use Rattle.octets.specs.Octet.{Octets}
use Rattle.leb128.specs.Number.{groups_of, Within, Head, number, short, none, head_of, found_at}
use Rattle.leb128.specs.Possible.{Possible, Begun}
use Rattle.leb128.specs.declared.Found.{Found}
use Rattle.leb128.specs.declared.NumberError.{NumberError}
use Rattle.leb128.specs.declared.NumberError.TheVariants.{Short, Bad}
use Rattle.refusal.specs.declared.Reason.TheVariants.{TooLong, BadNumber, EntryCut}
use Rattle.octets.proofs.Order.{below_or}
use Rattle.leb128.proofs.Exact.{sound, complete}
use Rattle.leb128.proofs.Groups.{groups_some}
use Rattle.leb128.proofs.Joining.{found_number, found_short, found_bad}
use Rattle.leb128.proofs.Possible.{Roomy, short_begun, begun_short, none_impossible, impossible_none}
use Rattle.journal.specs.Entry.{numeral}
use Rattle.journal.specs.Answers.{number_reason}
use Rattle.journal.specs.Reading.{Reading, entry, end, broken, judged, number_then, body_then}

-- ---- a number

-- five groups and 2^32 - 1 leave room for a last group
pub roomy : Roomy 5 4294967295
roomy = record { some = omega arith; few = omega arith; room = omega arith }

pub numeral_some : (n : ℕ) → 1 ≤ length (numeral n)
unfolding numeral
numeral_some n = groups_some 5 n (omega arith)

-- every number up to 2^32 - 1 has five groups at most
pub within : (n : ℕ) → n ≤ 4294967295 → Within 5 4294967295 n
within n h = record { groups = omega arith; small = h }

module _ (onward : ℕ → List ℕ → Reading) where
  -- as it is found at an index
  module _ (xs : List ℕ) (i : ℕ) where
    pub then_number : (f : Found) → found_at 5 4294967295 xs i ≡ Ok f → number_then onward (drop i xs) ≡ onward f.number (drop f.next xs)
    unfolding number_then
    then_number f q = ap (judged onward) (found_number 5 4294967295 xs i f.number f.next q).head

    pub then_none : (e : NumberError) → found_at 5 4294967295 xs i ≡ Err e → number_then onward (drop i xs) ≡ broken (number_reason e)
    unfolding number_then
    then_none Short q = ap (judged onward) (found_short 5 4294967295 xs i q).head
    then_none Bad q = ap (judged onward) (found_bad 5 4294967295 xs i q)

  -- forwards
  pub then_complete : (n : ℕ) (rest : List ℕ) → n ≤ 4294967295 → number_then onward (numeral n ++ rest) ≡ onward n rest
  unfolding number_then numeral
  then_complete n rest h = ap (judged onward) (complete 5 4294967295 (omega arith) (omega arith) n rest (within n h))

  pub then_begun : (xs : List ℕ) → Begun 5 4294967295 xs → number_then onward xs ≡ broken EntryCut
  unfolding number_then
  then_begun xs b = ap (judged onward) (begun_short 5 4294967295 roomy xs b).head

  pub then_impossible : (xs : List ℕ) → Octets xs → (Possible 5 4294967295 xs → ⊥) → number_then onward xs ≡ broken BadNumber
  unfolding number_then
  then_impossible xs o f = ap (judged onward) (impossible_none 5 4294967295 roomy xs o f)

  -- and back: the cases
  pub data Judged (xs : List ℕ) : Reading → Type 0 where
    good : {r : Reading} (n : ℕ) (rest : List ℕ) → xs ≡ numeral n ++ rest → n ≤ 4294967295 → onward n rest ≡ r → Judged xs r
    begun : Begun 5 4294967295 xs → Judged xs (broken EntryCut)
    impossible : (Possible 5 4294967295 xs → ⊥) → Judged xs (broken BadNumber)

  pub judged_as : (xs : List ℕ) → Octets xs → {r : Reading} → number_then onward xs ≡ r → Judged xs r
  unfolding number_then numeral
  judged_as xs o {r} e = subst (Judged xs) e (go (head_of 5 4294967295 xs) refl)
    where
      go : (h : Head) → head_of 5 4294967295 xs ≡ h → Judged xs (judged onward h)
      go (number n rest) q = let s = sound 5 4294967295 (omega arith) xs n rest o q in good n rest s.0 s.1.small refl
      go (short v k) q = begun (short_begun 5 4294967295 roomy xs o v k q)
      go none q = impossible (none_impossible 5 4294967295 roomy xs q)

-- before its first octet, any number is possible
pub possible_nil : (xs : List ℕ) → xs ≡ [] → Possible 5 4294967295 xs
possible_nil xs e = record {
  value = 0;
  further = groups_of 5 0;
  rest = [];
  good = within 0 (omega arith);
  text = ap (λ (l : List ℕ). l ++ groups_of 5 0) e ∙ sym (append-nil (groups_of 5 0));
}

-- reading does not end behind a number, where it does not end behind any
pub then_goes : (onward : ℕ → List ℕ → Reading) → ((n : ℕ) (rest : List ℕ) → onward n rest ≡ end → ⊥) → (xs : List ℕ) → number_then onward xs ≡ end → ⊥
unfolding number_then
then_goes onward f xs e = go (head_of 5 4294967295 xs) e
  where
    go : (h : Head) → judged onward h ≡ end → ⊥
    go (number n rest) q = f n rest q
    go (short v k) q = let z : ◌≡◌ {A = ℕ} 0 1 = cc in omega arith
    go none q = let z : ◌≡◌ {A = ℕ} 0 1 = cc in omega arith

pub found_within : (xs : List ℕ) (i : ℕ) (f : Found) → found_at 5 4294967295 xs i ≡ Ok f → f.next ≤ length xs
found_within xs i f q = (found_number 5 4294967295 xs i f.number f.next q).within

-- ---- the body

module _ (t s n : ℕ) (xs : List ℕ) where
  pub body_long : 1400 < n → broken TooLong ≡ body_then t s n xs
  unfolding body_then
  body_long h = simp (lt-ltb 1400 n h)

  module _ (h : n ≤ 1400) where
    pub body_cut : length xs < n → broken EntryCut ≡ body_then t s n xs
    unfolding body_then
    body_cut l = simp (le-ltb 1400 n h, lt-ltb (length xs) n l)

    pub body_full : n ≤ length xs → entry (record { ticks = t; source = s; payload = take n xs }) (drop n xs) ≡ body_then t s n xs
    unfolding body_then
    body_full l = simp (le-ltb 1400 n h, le-ltb (length xs) n l)

  pub data Bodied : Reading → Type 0 where
    long : 1400 < n → Bodied (broken TooLong)
    cut : n ≤ 1400 → length xs < n → Bodied (broken EntryCut)
    full : n ≤ 1400 → n ≤ length xs → Bodied (entry (record { ticks = t; source = s; payload = take n xs }) (drop n xs))

  pub bodied_as : {r : Reading} → body_then t s n xs ≡ r → Bodied r
  bodied_as e = subst Bodied e (go (below_or 1400 n) (below_or (length xs) n))
    where
      go : (1400 < n) ⊎ (n ≤ 1400) → (length xs < n) ⊎ (n ≤ length xs) → Bodied (body_then t s n xs)
      go (inl h) l = subst Bodied (body_long h) (long h)
      go (inr h) (inl l) = subst Bodied (body_cut h l) (cut h l)
      go (inr h) (inr l) = subst Bodied (body_full h l) (full h l)

pub body_goes : (t s n : ℕ) (xs : List ℕ) → body_then t s n xs ≡ end → ⊥
unfolding body_then
body_goes t s n xs e = go (ltb 1400 n) (ltb (length xs) n) e
  where
    go : (a b : Bool) → cond a (broken TooLong) (cond b (broken EntryCut) (entry (record { ticks = t; source = s; payload = take n xs }) (drop n xs))) ≡ end → ⊥
    go true b q = let z : ◌≡◌ {A = ℕ} 0 1 = cc in omega arith
    go false true q = let z : ◌≡◌ {A = ℕ} 0 1 = cc in omega arith
    go false false q = let z : ◌≡◌ {A = ℕ} 0 1 = cc in omega arith

pub body_complete : (t s : ℕ) (p rest : List ℕ) → length p ≤ 1400
    → body_then t s (length p) (p ++ rest) ≡ entry (record { ticks = t; source = s; payload = p }) rest
body_complete t s p rest h =
    sym (body_full t s (length p) (p ++ rest) h (omega (arith, length-append p rest)))
    ∙ ap (λ (l : List ℕ). entry (record { ticks = t; source = s; payload = l }) (drop (length p) (p ++ rest))) (take_at p rest (length p) refl)
    ∙ ap (entry (record { ticks = t; source = s; payload = p })) (drop_at p rest (length p) refl)
