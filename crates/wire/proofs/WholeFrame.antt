-- What the walk's step says of the octets that it looked at: the frame that it names is whole and legal, and a refusal is one of 1 to 8
-- but not 5.
use mathlib.Core.Path.{◌≡◌, refl, sym, ap, ◌∙◌}
use mathlib.Core.Logic.{◌⊎◌, inl, inr}
use mathlib.Core.Bool.{Bool, true, false, cond, not, ◌&&◌}
use mathlib.Core.List.{List, [], ◌∷◌}
use Prim.Native.Nat.{ℕ, zero, suc, ◌+◌, ◌-◌, ◌≤◌, ◌<◌}
use native.Mathlib.Omega.{arith}
use lib.Dec.{T, leb, ltb, eqb, leb→le, eqb→eq}
use lib.ListN.{length, get_or}
use borrow.Author.Tests.{ltb-false, eq-eqb}
use Rattle.std.specs.Prelude.{Result, Ok, Err}
use Rattle.refusal.specs.declared.Reason.TheVariants.{FrameCut, ComfortNoiseNotLast, AugmentationNot2400, RatesMixed}
use Rattle.refusal.specs.declared.Reason.{Reason}
use Rattle.refusal.specs.Numbers.{number_of}
use Rattle.octets.specs.Octet.{Octets}
use Rattle.wire.specs.Frame.{LegalRow, base, code, top, rate, count_of, body_octets, wire_octets}
use Rattle.wire.specs.Walk.{named, counted, ending, whole, last_frame, beside}
use Rattle.wire.specs.declared.Framing.{Framing, Framing}
use Rattle.wire.specs.declared.Row.{Row, Row}
use Rattle.octets.proofs.Order.{below_or}
use Rattle.wire.proofs.TableLaws.{first, second, bounds}
use Rattle.wire.proofs.NameLaws.{legal, legal_is, refusal, ends_in, name_holds, named_holds, ends_long, long_name_holds, counted_holds}
use Rattle.wire.proofs.Endings.{ending_one, ending_two, ending-alone}

-- a refusal's number: 1 to 8, but not 5
abbrev pub Numbered : ℕ → Type 0
Numbered n = (1 ≤ n) × (n ≤ 8) × (n ≡ 5 → ⊥)

numbered : (n : ℕ) → T (refusal n) → Numbered n
numbered n h =
    let r = second (leb 1 n) (leb n 8 && not (eqb n 5)) h in (
      leb→le 1 n (first (leb 1 n) (leb n 8 && not (eqb n 5)) h),
      leb→le n 8 (first (leb n 8) (not (eqb n 5)) r),
      λ e. simp (eq-eqb n 5 e) at (second (leb n 8) (not (eqb n 5)) r),
    )

module _ (fr : Framing) where
  -- ---- what the end of the unread octets shows of the frame

  -- if the frame of row x is whole among u octets, its base ends in its rate code, and behind its body stands its count
  pub record Shown (p : List ℕ) (u : ℕ) (x : Row) : Type 0 where
    pub legal : LegalRow x
    pub coded : wire_octets x ≤ u → code fr x ≤ get_or p (u - wire_octets x + (base x - 1)) 0
    pub count : wire_octets x ≤ u → (i : ℕ) → i < length (count_of x) → get_or p (u - wire_octets x + (body_octets x + i)) 0 ≡ get_or (count_of x) i 0

  abbrev pub Shows : List ℕ → ℕ → Result Row Reason → Type 0
  Shows p u (Err n) = Numbered (number_of n)
  Shows p u (Ok x) = Shown p u x

  module _ (p : List ℕ) (u : ℕ) where
    -- one octet names the frame: its base's last, or its count
    shown_one : (y : ℕ) → get_or p (u - 1) 0 ≡ y → (x : Row) → LegalRow x → (cs : List ℕ) → count_of x ≡ cs → T (ends_in fr y x cs) → Shown p u x
    shown_one y e x l [] c h =
        let n : length (count_of x) ≡ 0 = ap length c in
        let z : x.tc ≡ 0 = eqb→eq _ _ (first (eqb x.tc 0) (leb (code fr x) y) h) in
        let low : code fr x ≤ y = leb→le _ _ (second (eqb x.tc 0) (leb (code fr x) y) h) in
        record {
          legal = l;
          coded = λ w.
              let i : u - wire_octets x + (base x - 1) ≡ u - 1 = (let b = bounds x.kind in omega arith) in
              rw (i, e) low;
          count = λ w i j. absurd (omega arith);
        }
    shown_one y e x l (c ∷ []) d h =
        let n : length (count_of x) ≡ 1 = ap length d in
        let z : code fr x ≡ 0 = eqb→eq _ _ (first (eqb (code fr x) 0) (eqb c y) h) in
        let q : c ≡ y = eqb→eq _ _ (second (eqb (code fr x) 0) (eqb c y) h) in
        record {
          legal = l;
          coded = λ w. omega arith;
          count = λ w i j.
              let i₀ : i ≡ 0 = omega arith in
              let a : u - wire_octets x + (body_octets x + i) ≡ u - 1 = omega arith in
              rw (a, d, i₀, e, q);
        }
    shown_one y e x l (c ∷ d ∷ cs) q h = absurd h

    -- two octets name it
    shown_two : (t : ℕ) → get_or p (u - 1) 0 ≡ 255 → get_or p (u - 2) 0 ≡ t → (x : Row) → LegalRow x → (cs : List ℕ) → count_of x ≡ cs → T (ends_long fr t x cs) → Shown p u x
    shown_two t e e₂ x l [] q h = absurd h
    shown_two t e e₂ x l (c ∷ []) q h = absurd h
    shown_two t e e₂ x l (c ∷ d ∷ []) q h =
        let n : length (count_of x) ≡ 2 = ap length q in
        let z : code fr x ≡ 0 = eqb→eq _ _ (first (eqb (code fr x) 0) _ h) in
        let ct : c ≡ t = eqb→eq _ _ (first (eqb c t) (eqb d 255) (second (eqb (code fr x) 0) _ h)) in
        let dl : d ≡ 255 = eqb→eq _ _ (second (eqb c t) (eqb d 255) (second (eqb (code fr x) 0) _ h)) in
        record {
          legal = l;
          coded = λ w. omega arith;
          count = λ w i j. both w i (omega arith) ct dl n ∙ sym (ap (λ (l : List ℕ). get_or l i 0) q);
        }
      where
        both : wire_octets x ≤ u → (i : ℕ) → i < 2 → c ≡ t → d ≡ 255 → length (count_of x) ≡ 2 → get_or p (u - wire_octets x + (body_octets x + i)) 0 ≡ get_or (c ∷ d ∷ []) i 0
        both w zero j ct dl n = let a : u - wire_octets x + (body_octets x + 0) ≡ u - 2 = omega arith in rw (a, e₂, ct)
        both w (suc zero) j ct dl n = let a : u - wire_octets x + (body_octets x + 1) ≡ u - 1 = omega arith in rw (a, e, dl)
        both w (suc (suc i)) j ct dl n = absurd (omega arith)
    shown_two t e e₂ x l (c ∷ d ∷ f ∷ cs) q h = absurd h

    shows_one : (y : ℕ) → get_or p (u - 1) 0 ≡ y → (e : Result Row Reason) → T (name_holds fr y e) → Shows p u e
    shows_one y q (Err n) h = numbered (number_of n) h
    shows_one y q (Ok x) h = shown_one y q x (legal_is x (first (legal x) _ h)) (count_of x) refl (second (legal x) (ends_in fr y x (count_of x)) h)

    shows_two : (t : ℕ) → get_or p (u - 1) 0 ≡ 255 → get_or p (u - 2) 0 ≡ t → (e : Result Row Reason) → T (long_name_holds fr t e) → Shows p u e
    shows_two t q r (Err n) h = numbered (number_of n) h
    shows_two t q r (Ok x) h = shown_two t q r x (legal_is x (first (legal x) _ h)) (count_of x) refl (second (legal x) (ends_long fr t x (count_of x)) h)

    pub ending_shows : Octets p → 1 ≤ u → Shows p u (ending fr p u)
    ending_shows o h = go (below_or (get_or p (u - 1) 0) 255) (below_or 1 u)
      where
        go : (get_or p (u - 1) 0 < 255) ⊎ (255 ≤ get_or p (u - 1) 0) → (1 < u) ⊎ (u ≤ 1) → Shows p u (ending fr p u)
        go (inl a) w = rw (ending_one fr p u (get_or p (u - 1) 0) h refl a) (shows_one (get_or p (u - 1) 0) refl (named fr (get_or p (u - 1) 0)) (named_holds fr (get_or p (u - 1) 0) a))
        go (inr a) (inl w) =
            let e : get_or p (u - 1) 0 ≡ 255 = omega (arith, o (u - 1)) in
            rw (ending_two fr p u (get_or p (u - 2) 0) w a refl) (shows_two (get_or p (u - 2) 0) e refl (counted (get_or p (u - 2) 0)) (counted_holds fr (get_or p (u - 2) 0) (o (u - 2))))
        go (inr a) (inr w) = rw (ending-alone fr p u (omega arith) a) (omega arith, omega arith, λ e. omega arith)

  -- ---- a whole frame

  -- the octets of a frame of row x stand at the end of u octets
  pub record Whole (p : List ℕ) (u : ℕ) (x : Row) : Type 0 where
    pub legal : LegalRow x
    pub room : wire_octets x ≤ u
    pub low : code fr x ≤ get_or p (u - wire_octets x + (base x - 1)) 0
    pub high : get_or p (u - wire_octets x + (base x - 1)) 0 ≤ code fr x + top fr x
    pub count : (i : ℕ) → i < length (count_of x) → get_or p (u - wire_octets x + (body_octets x + i)) 0 ≡ get_or (count_of x) i 0

  abbrev pub Wholes : List ℕ → ℕ → Result Row Reason → Type 0
  Wholes p u (Err n) = Numbered (number_of n)
  Wholes p u (Ok x) = Whole p u x

  whole_says : (p : List ℕ) (u : ℕ) (e : Result Row Reason) → Shows p u e → Wholes p u (whole fr p u e)
  unfolding whole
  whole_says p u (Err n) s = s
  whole_says p u (Ok x) s = go (ltb u (wire_octets x)) refl (ltb (code fr x + top fr x) (get_or p (u - wire_octets x + (base x - 1)) 0)) refl
    where
      go : (a : Bool) → ltb u (wire_octets x) ≡ a → (b : Bool) → ltb (code fr x + top fr x) (get_or p (u - wire_octets x + (base x - 1)) 0) ≡ b
          → Wholes p u (cond a (Err FrameCut) (cond b (Err AugmentationNot2400) (Ok x)))
      go true d b e = (omega arith, omega arith, λ e. omega arith)
      go false d true e = (omega arith, omega arith, λ e. omega arith)
      go false d false e =
          let room = ltb-false u (wire_octets x) d in
          record { legal = s.legal; room = room; low = s.coded room; high = ltb-false _ _ e; count = s.count room }

  pub last_says : (p : List ℕ) (u : ℕ) → Octets p → 1 ≤ u → Wholes p u (last_frame fr p u)
  unfolding last_frame
  last_says p u o h = whole_says p u (ending fr p u) (ending_shows p u o h)

  -- a frame that the walk reads is whole
  pub beside_keeps : (p : List ℕ) (u n r : ℕ) (e : Result Row Reason) → Wholes p u e → Wholes p u (beside n r e)
  unfolding beside
  beside_keeps p u n r (Err m) w = w
  beside_keeps p u n r (Ok x) w = go (eqb (rate x) 0) (eqb n 0) (eqb r 0) (eqb (rate x) r)
    where
      go : (a b c d : Bool) → Wholes p u (cond a (cond b (Ok x) (Err ComfortNoiseNotLast)) (cond c (Ok x) (cond d (Ok x) (Err RatesMixed))))
      go true true c d = w
      go true false c d = (omega arith, omega arith, λ e. omega arith)
      go false b true d = w
      go false b false true = w
      go false b false false = (omega arith, omega arith, λ e. omega arith)
