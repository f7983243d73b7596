-- Laws of bits that are put at places.
use mathlib.Core.Path.{◌≡◌, refl, sym, ap, ◌∙◌}
use mathlib.Core.List.{List, [], ◌∷◌, ◌++◌, map}
use Prim.Native.Nat.{ℕ, zero, suc, ◌+◌, ◌≤◌, ◌<◌}
use native.Mathlib.Decide.{dec_le, ℕ_discrete}
use native.Mathlib.Omega.{arith}
use borrow.Author.Tests.{eq-eqb, ne_eqb}
use lib.ListN.{length, get_or, set, drop, length-set, length-append}
use lib.Seq.{get_or-set_same, get_or-set_other, set_at, append_snoc}
use Rattle.fields.specs.Table.{placed, run}
use Rattle.fields.specs.RoundTrip.{times}
use Rattle.fields.proofs.Digits.{Bits, bits_tail}

-- how often a bit is named, place by place
times_here : {p q : ℕ} (qs : List ℕ) → p ≡ q → times p (q ∷ qs) ≡ 1 + times p qs
unfolding times
times_here {p} {q} qs e = rw (eq-eqb p q e)

pub times_there : {p q : ℕ} (qs : List ℕ) → (p ≡ q → ⊥) → times p (q ∷ qs) ≡ times p qs
unfolding times
times_there {p} {q} qs n = rw (ne_eqb p q n) (omega arith)

-- the first place is p, or p is named as often as behind it
data First (p q : ℕ) (qs : List ℕ) : Type 0 where
  here : p ≡ q → times p (q ∷ qs) ≡ 1 + times p qs → First p q qs
  there : (p ≡ q → ⊥) → times p (q ∷ qs) ≡ times p qs → First p q qs

first : (p q : ℕ) (qs : List ℕ) → First p q qs
first p q qs = go (ℕ_discrete p q)
  where
    go : Dec (p ≡ q) → First p q qs
    go (yes e) = here e (times_here qs e)
    go (no n) = there n (times_there qs n)

times_less : (p q : ℕ) (qs : List ℕ) → times p qs ≤ times p (q ∷ qs)
times_less p q qs = go (first p q qs)
  where
    go : First p q qs → times p qs ≤ times p (q ∷ qs)
    go (here e t) = omega arith
    go (there n t) = omega arith

-- bits that are put at neighbouring places take the place of those there
pub placed-run : (ps bs l : List ℕ) → length bs ≤ length l → placed (run (length ps) (length bs)) bs (ps ++ l) ≡ ps ++ (bs ++ drop (length bs) l)
unfolding placed run
placed-run ps [] l h = refl
placed-run ps (b ∷ bs) [] h = absurd (omega arith)
placed-run ps (b ∷ bs) (x ∷ l) h =
    let s : set (ps ++ (x ∷ l)) (length ps) b ≡ (ps ++ (b ∷ [])) ++ l = set_at ps x l b (length ps) refl ∙ sym (append_snoc ps b l) in
    let n : suc (length ps) ≡ length (ps ++ (b ∷ [])) = simp length-append (omega arith) in
    ap (λ (m : List ℕ). placed (run (suc (length ps)) (length bs)) bs m) s
    ∙ ap (λ (k : ℕ). placed (run k (length bs)) bs ((ps ++ (b ∷ [])) ++ l)) n
    ∙ placed-run (ps ++ (b ∷ [])) bs l (omega arith) ∙ append_snoc ps b (bs ++ drop (length bs) l)

pub length-placed : (ps bs l : List ℕ) → length (placed ps bs l) ≡ length l
unfolding placed
length-placed [] bs l = refl
length-placed (p ∷ ps) [] l = refl
length-placed (p ∷ ps) (b ∷ bs) l = length-placed ps bs (set l p b) ∙ length-set l p b

bits-set : (l : List ℕ) (p b : ℕ) → Bits l → b < 2 → Bits (set l p b)
bits-set [] p b h lt i = omega arith
bits-set (x ∷ l) zero b h lt zero = lt
bits-set (x ∷ l) zero b h lt (suc i) = h (suc i)
bits-set (x ∷ l) (suc p) b h lt zero = h 0
bits-set (x ∷ l) (suc p) b h lt (suc i) = bits-set l p b (bits_tail x l h) lt i

pub bits-placed : (ps bs l : List ℕ) → Bits bs → Bits l → Bits (placed ps bs l)
unfolding placed
bits-placed [] bs l h g = g
bits-placed (p ∷ ps) [] l h g = g
bits-placed (p ∷ ps) (b ∷ bs) l h g = bits-placed ps bs (set l p b) (bits_tail b bs h) (bits-set l p b g (h 0))

-- a bit that is not named stays
pub placed_other : (p : ℕ) (ps bs l : List ℕ) → times p ps ≡ 0 → get_or (placed ps bs l) p 0 ≡ get_or l p 0
unfolding placed
placed_other p [] bs l h = refl
placed_other p (q ∷ ps) [] l h = refl
placed_other p (q ∷ ps) (b ∷ bs) l h = go (first p q ps) (placed_other p ps bs (set l q b))
  where
    go : First p q ps
        → (times p ps ≡ 0 → get_or (placed ps bs (set l q b)) p 0 ≡ get_or (set l q b) p 0) → get_or (placed ps bs (set l q b)) p 0 ≡ get_or l p 0
    go (here e t) ih = absurd (omega arith)
    go (there n t) ih = ih (omega arith) ∙ get_or-set_other l q p b 0 n

-- where no bit is named twice, each place has its bit
pub placed_here : (ps bs l : List ℕ) → length bs ≡ length ps → ((p : ℕ) → times p ps ≤ 1) → ((p : ℕ) → 1 ≤ times p ps → p < length l)
    → map (λ (p : ℕ). get_or (placed ps bs l) p 0) ps ≡ bs
unfolding placed
placed_here [] [] l e once room = refl
placed_here [] (b ∷ bs) l e once room = absurd (omega arith)
placed_here (p ∷ ps) [] l e once room = absurd (omega arith)
placed_here (p ∷ ps) (b ∷ bs) l e once room =
    let one : times p (p ∷ ps) ≡ 1 + times p ps = times_here ps refl in
    let a : get_or (placed ps bs (set l p b)) p 0 ≡ b =
    placed_other p ps bs (set l p b) (omega (arith, once p)) ∙ get_or-set_same l p b 0 (room p (omega arith)) in
    let t : map (λ (q : ℕ). get_or (placed ps bs (set l p b)) q 0) ps ≡ bs =
    placed_here ps bs (set l p b) (omega arith) (λ q. omega (arith, once q, times_less q p ps))
    (λ q h. simp length-set (room q (omega (arith, times_less q p ps)))) in
    rw (a, t)

-- bits that a function of the place gives stand at each place that is named
pub placed_same : (f : ℕ → ℕ) (ps l : List ℕ) (p : ℕ) → p < length l → 1 ≤ times p ps → get_or (placed ps (map f ps) l) p 0 ≡ f p
unfolding placed times
placed_same f [] l p lt h = absurd (omega arith)
placed_same f (q ∷ ps) l p lt h =
    go (dec_le 1 (times p ps)) (placed_same f ps (set l q (f q)) p (simp length-set lt)) (first p q ps)
  where
    go : Dec (1 ≤ times p ps) → (1 ≤ times p ps → get_or (placed ps (map f ps) (set l q (f q))) p 0 ≡ f p)
        → First p q ps
        → get_or (placed ps (map f ps) (set l q (f q))) p 0 ≡ f p
    go (yes k) ih w = ih k
    go (no k) ih (here e t) =
        placed_other p ps (map f ps) (set l q (f q)) (omega arith)
        ∙ ap (λ (n : ℕ). get_or (set l n (f n)) p 0) (sym e) ∙ get_or-set_same l p (f p) 0 lt
    go (no k) ih (there n t) = absurd (omega arith)
