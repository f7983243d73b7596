-- What the end of the unread octets names, case by case; and that a step looks at the unread octets alone.
use mathlib.Core.Path.{◌≡◌, refl, sym, ap, ◌∙◌}
use mathlib.Core.Logic.{◌⊎◌, inl, inr}
use mathlib.Core.List.{List}
use Prim.Native.Nat.{ℕ, ◌+◌, ◌-◌, ◌≤◌, ◌<◌}
use native.Mathlib.Omega.{arith}
use lib.ListN.{length, get_or, take}
use lib.Seq.{length-take-le, get_or-take}
use borrow.Author.Tests.{lt-ltb, le-ltb, ne_eqb, eq-eqb}
use Rattle.std.specs.Prelude.{Result, Ok, Err}
use Rattle.refusal.specs.declared.Reason.TheVariants.{FrameCut}
use Rattle.refusal.specs.declared.Reason.{Reason}
use Rattle.wire.specs.Frame.{base, wire_octets}
use Rattle.wire.specs.Walk.{named, counted, ending, whole, last_frame}
use Rattle.wire.specs.Answers.{ending_report, Identified}
use Rattle.wire.specs.declared.Framing.{Framing, Framing}
use Rattle.octets.proofs.Order.{below_or}
use Rattle.wire.proofs.TableLaws.{bounds}
use Rattle.wire.specs.declared.Row.{Row}

module _ (fr : Framing) where
  module _ (p : List ℕ) (u : ℕ) where
    pub ending_none : u ≡ 0 → ending fr p u ≡ Err FrameCut
    unfolding ending
    ending_none e = simp (eq-eqb u 0 e)

    pub ending_one : (x : ℕ) → 1 ≤ u → get_or p (u - 1) 0 ≡ x → x < 255 → ending fr p u ≡ named fr x
    unfolding ending
    ending_one x l e h = rw e (simp (ne_eqb u 0 (λ q. omega arith), lt-ltb x 255 h))

    pub ending-alone : u ≡ 1 → 255 ≤ get_or p (u - 1) 0 → ending fr p u ≡ Err FrameCut
    unfolding ending
    ending-alone e a = simp (ne_eqb u 0 (λ q. omega arith), le-ltb (get_or p (u - 1) 0) 255 a, eq-eqb u 1 e)

    pub ending_two : (t : ℕ) → 2 ≤ u → 255 ≤ get_or p (u - 1) 0 → get_or p (u - 2) 0 ≡ t → ending fr p u ≡ counted t
    unfolding ending
    ending_two t h e e₂ = simp (ne_eqb u 0 (λ q. omega arith), le-ltb (get_or p (u - 1) 0) 255 e, e₂, ne_eqb u 1 (λ q. omega arith))

  module _ (p : List ℕ) (u : ℕ) (inside : u ≤ length p) where
    long : length (take u p) ≡ u
    long = length-take-le u p inside

    pub ending-take : ending fr (take u p) (length (take u p)) ≡ ending fr p u
    unfolding ending
    ending-take = ap (ending fr (take u p)) long ∙ go (below_or 0 u)
      where
        go : (0 < u) ⊎ (u ≤ 0) → ending fr (take u p) u ≡ ending fr p u
        go (inl h) = simp (get_or-take u p (u - 1) 0 (omega arith), get_or-take u p (u - 2) 0 (omega arith))
        go (inr h) = ending_none (take u p) u (omega arith) ∙ sym (ending_none p u (omega arith))

    whole_take : (e : Result Row Reason) → whole fr (take u p) u e ≡ whole fr p u e
    unfolding whole
    whole_take (Err n) = refl
    whole_take (Ok x) = go (below_or u (wire_octets x))
      where
        go : (u < wire_octets x) ⊎ (wire_octets x ≤ u) → whole fr (take u p) u (Ok x) ≡ whole fr p u (Ok x)
        go (inl h) = simp (lt-ltb u (wire_octets x) h)
        go (inr h) = simp (get_or-take u p (u - wire_octets x + (base x - 1)) 0 (let b = bounds x.kind in omega arith))

    pub last_take : last_frame fr (take u p) (length (take u p)) ≡ last_frame fr p u
    unfolding last_frame
    last_take =
        ap (λ (e : Result Row Reason). whole fr (take u p) (length (take u p)) e) ending-take
        ∙ ap (λ (n : ℕ). whole fr (take u p) n (ending fr p u)) long
        ∙ whole_take (ending fr p u)

  -- what is found has the numbers of what is found
  pub identified : (p : List ℕ) {r : Result Row Reason} → r ≡ ending fr p (length p) → Identified fr p r
  identified p e = record { answer = e; numbers = ap (ending_report (length p)) e }
