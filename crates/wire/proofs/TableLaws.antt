-- A rule of every kind, or of every number in a range, from one test that antt computes; and the bounds of the table's numbers.
use mathlib.Core.Path.{◌≡◌, refl, sym, ap, ◌∙◌, subst}
use mathlib.Core.Logic.{◌⊎◌, inl, inr}
use mathlib.Core.Bool.{Bool, true, false, cond, ◌&&◌, ◌||◌}
use mathlib.Core.List.{List, [], ◌∷◌}
use Prim.Native.Nat.{ℕ, zero, suc, ◌+◌, ◌-◌, ◌≤◌, ◌<◌}
use native.Mathlib.Omega.{arith}
use native.Mathlib.Decide.{ℕ_discrete}
use lib.Dec.{T, leb, eqb, leb→le, eqb→eq}
use lib.ListN.{length}
use Rattle.std.specs.Prelude.{Some}
use Rattle.wire.specs.Frame.{framings, entry_in, kinds, table, look_up, kind_of, is_short, count_in}
use Rattle.wire.specs.declared.Framing.{Framing, Framing}
use Rattle.wire.specs.declared.Framing.TheVariants.{Unframed, Framed2400, Framed600}
use Rattle.wire.specs.declared.Kind.{Kind, Kind}
use Rattle.wire.specs.declared.Kind.TheVariants.{Bps2400, Bps1200, Bps600, ComfortNoise, Tsvcis, TsvcisLong}
use Rattle.wire.specs.declared.Counting.{Counting}
use Rattle.wire.specs.declared.Counting.TheVariants.{Uncounted, ShortOrLong, Long}

-- ---- tests

pub first : (a b : Bool) → T (a && b) → T a
first true b h = tt
first false b h = h

pub second : (a b : Bool) → T (a && b) → T b
second true b h = h
second false b h = absurd h

-- ---- every kind

-- the table's numbers tell its kinds apart
pub kind_of_lem : (k : Kind) → kind_of (table k).number ≡ Some k
kind_of_lem Bps2400 = refl
kind_of_lem Bps1200 = refl
kind_of_lem Bps600 = refl
kind_of_lem ComfortNoise = refl
kind_of_lem Tsvcis = refl
kind_of_lem TsvcisLong = refl

pub same_number : (j k : Kind) → (table j).number ≡ (table k).number → j ≡ k
same_number j k e = let q : Some j ≡ Some k = sym (kind_of_lem j) ∙ ap kind_of e ∙ kind_of_lem k in cc

-- the test f passes at each of the kinds
abbrev pub every : (Kind → Bool) → List Kind → Bool
every f [] = true
every f (k ∷ ks) = f k && every f ks

found : (f : Kind → Bool) (n : ℕ) (k : Kind) (ks : List Kind) → T (every f ks) → look_up n ks ≡ Some k → T (f k)
found f n k [] h e = absurd (let z : ◌≡◌ {A = ℕ} 0 1 = cc in omega arith)
found f n k (j ∷ ks) h e = go (found f n k ks (second (f j) (every f ks) h)) (eqb (table j).number n) e
  where
    go : (look_up n ks ≡ Some k → T (f k)) → (b : Bool) → cond b (Some j) (look_up n ks) ≡ Some k → T (f k)
    go rest true d = let q : j ≡ k = cc in subst (λ (i : Kind). T (f i)) q (first (f j) (every f ks) h)
    go rest false d = rest d

pub at_kind : (f : Kind → Bool) → T (every f kinds) → (k : Kind) → T (f k)
at_kind f h k = found f (table k).number k kinds h (kind_of_lem k)

-- ---- every framing

-- the test f passes at each of the framings
abbrev pub in_all : (Framing → Bool) → List Framing → Bool
in_all f [] = true
in_all f (s ∷ ss) = f s && in_all f ss

pub at_framing : (f : Framing → Bool) → T (in_all f framings) → (fr : Framing) → T (f fr)
at_framing f h Unframed = first (f Unframed) (f Framed2400 && (f Framed600 && true)) h
at_framing f h Framed2400 = first (f Framed2400) (f Framed600 && true) (second (f Unframed) (f Framed2400 && (f Framed600 && true)) h)
at_framing f h Framed600 = first (f Framed600) true (second (f Framed2400) (f Framed600 && true) (second (f Unframed) (f Framed2400 && (f Framed600 && true)) h))

-- ---- every number of a range

-- the test f passes at n numbers from a on
abbrev pub each : (ℕ → Bool) → ℕ → ℕ → Bool
each f a zero = true
each f a (suc n) = f a && each f (suc a) n

pub at_number : (f : ℕ → Bool) (a n : ℕ) → T (each f a n) → (x : ℕ) → a ≤ x → x < a + n → T (f x)
at_number f a zero h x l m = absurd (omega arith)
at_number f a (suc n) h x l m = go (at_number f (suc a) n (second (f a) (each f (suc a) n) h) x) (ℕ_discrete a x)
  where
    go : (suc a ≤ x → x < suc a + n → T (f x)) → Dec (a ≡ x) → T (f x)
    go rest (yes e) = subst (λ (y : ℕ). T (f y)) e (first (f a) (each f (suc a) n) h)
    go rest (no e) = rest (omega arith) (omega arith)

-- ---- the bounds of the table

pub record Bounds (k : Kind) : Type 0 where
  pub least : 2 ≤ (table k).octets
  pub most : (table k).octets ≤ 11
  pub octet : (table k).code + (table k).top < 255
  pub tc : (table k).most ≤ 255

pub bounds : (k : Kind) → Bounds k
bounds k = record {
  least = leb→le 2 (table k).octets (at_kind (λ (j : Kind). leb 2 (table j).octets) tt k);
  most = leb→le (table k).octets 11 (at_kind (λ (j : Kind). leb (table j).octets 11) tt k);
  octet = leb→le (suc ((table k).code + (table k).top)) 255 (at_kind (λ (j : Kind). leb (suc ((table j).code + (table j).top)) 255) tt k);
  tc = leb→le (table k).most 255 (at_kind (λ (j : Kind). leb (table j).most 255) tt k);
}

octets_in_kind : Framing → Kind → Bool
octets_in_kind fr k = leb (suc ((entry_in fr (table k)).code + (entry_in fr (table k)).top)) 255

all_octets : T (in_all (λ (fr : Framing). every (octets_in_kind fr) kinds) framings)
unfolding octets_in_kind
all_octets = tt

-- a base's last octet is below 255 in every session
pub octet : (fr : Framing) (k : Kind) → (entry_in fr (table k)).code + (entry_in fr (table k)).top < 255
unfolding octets_in_kind
octet fr k =
    leb→le (suc ((entry_in fr (table k)).code + (entry_in fr (table k)).top)) 255
    (at_kind (octets_in_kind fr) (at_framing (λ (s : Framing). every (octets_in_kind s) kinds) all_octets fr) k)

pub count_most : (c : Counting) (t : ℕ) → length (count_in c t) ≤ 2
unfolding count_in
count_most Uncounted t = omega arith
count_most ShortOrLong t = go (is_short t)
  where
    go : (b : Bool) → length (cond b ((192 + (t - 15)) ∷ []) (t ∷ 255 ∷ [])) ≤ 2
    go true = omega arith
    go false = omega arith
count_most Long t = omega arith

-- a coder frame has at least seven octets
pub coder_octets : (k : Kind) → ((table k).rate ≡ 0 → ⊥) → 7 ≤ (table k).octets
coder_octets k h = go (ℕ_discrete (table k).rate 0) (at_kind (λ (j : Kind). eqb (table j).rate 0 || leb 7 (table j).octets) tt k)
  where
    or : (a b : Bool) → T (a || b) → T a ⊎ T b
    or true b t = inl tt
    or false b t = inr t

    go : Dec ((table k).rate ≡ 0) → T (eqb (table k).rate 0 || leb 7 (table k).octets) → 7 ≤ (table k).octets
    go (yes e) t = absurd (h e)
    go (no e) t = pick (or (eqb (table k).rate 0) (leb 7 (table k).octets) t)
      where
        pick : T (eqb (table k).rate 0) ⊎ T (leb 7 (table k).octets) → 7 ≤ (table k).octets
        pick (inl z) = absurd (h (eqb→eq (table k).rate 0 z))
        pick (inr z) = leb→le 7 (table k).octets z
