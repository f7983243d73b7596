-- What the loop that reads a number keeps, and what it answers.
use mathlib.Core.Path.{◌≡◌, refl, sym, ap, ◌∙◌}
use mathlib.Core.List.{List}
use Prim.Native.Nat.{ℕ, suc, ◌+◌, ◌-◌, ◌≤◌, ◌<◌}
use native.Mathlib.Numerals.{add-one}
use native.Mathlib.Omega.{arith}
use lib.ListN.{length, get_or, drop, take, length-drop, drop_of_length-le}
use lib.Seq.{drop-cons, take_all, length-take-le}
use Rattle.std.specs.Prelude.{Option, Some, None, Result, Ok, Err}
use Rattle.leb128.specs.Number.{step_of, head_from, head_of, found_of, found_at, found_values, Finds}
use Rattle.leb128.specs.declared.Group.{Group}
use Rattle.leb128.specs.declared.Group.TheVariants.{More, Last}
use Rattle.leb128.specs.declared.Found.{Found}
use Rattle.leb128.specs.declared.NumberError.{NumberError}
use Rattle.leb128.specs.declared.NumberError.TheVariants.{Short, Bad}
use Rattle.leb128.proofs.Steps.{more_few}
use Rattle.leb128.proofs.Joining.{after, head_after}

-- the octets from the index a on, as the loop has them
abbrev items : List ℕ → ℕ → List ℕ
items xs a = take (length xs - a) (drop a xs)

-- from k groups of the value v on, the head of the octets from the index a on is that of those behind the k groups
pub record Heads (most bound : ℕ) (xs : List ℕ) (a v k : ℕ) : Type 0 where
  pub few : k ≤ 9
  same : head_of most bound (drop a xs) ≡ head_from most bound v k (drop k (items xs a))

-- the promise of what stands at an index, from the answer
pub finds : (most bound : ℕ) (xs : List ℕ) (i : ℕ) {r : Result Found NumberError} → r ≡ found_at most bound xs i → Finds most bound xs i r
finds most bound xs i e = record { answer = e; values = ap found_values e }

-- past the end
pub found_past : (most bound : ℕ) (xs : List ℕ) (a : ℕ) → length xs ≤ a → Finds most bound xs a (Err Short)
found_past most bound xs a h = finds most bound xs a (ap (λ (l : List ℕ). found_of (length xs) (head_of most bound l)) (sym (drop_of_length-le xs h)))

module _ (most bound : ℕ) (xs : List ℕ) (a : ℕ) where
  pub heads_start : Heads most bound xs a 0 0
  heads_start = record { few = omega arith; same = ap (head_of most bound) (sym (take_all (length xs - a) (drop a xs) (omega (arith, length-drop a xs)))) }

  module _ {v k : ℕ} (h : Heads most bound xs a v k) where
    pub heads_end : length (items xs a) ≤ k → Finds most bound xs a (Err Short)
    heads_end l =
        finds most bound xs a (ap (found_of (length xs)) (sym (h.same ∙ ap (head_from most bound v k) (drop_of_length-le (items xs a) l))))

    module _ (l : k < length (items xs a)) {g : Option Group} (e : g ≡ step_of most bound v k (get_or (items xs a) k 0)) where
      on : (x : Option Group) → g ≡ x → head_of most bound (drop a xs) ≡ after most bound k (drop (suc k) (items xs a)) x
      on x q =
          h.same
          ∙ ap (head_from most bound v k) (drop-cons (items xs a) k 0 l)
          ∙ head_after most bound v k (get_or (items xs a) k 0) (drop (suc k) (items xs a))
          ∙ ap (after most bound k (drop (suc k) (items xs a))) (sym e ∙ q)

      pub heads_more : (w : ℕ) → g ≡ Some (More w) → Heads most bound xs a w (k + 1)
      heads_more w q =
          record { few = omega (arith, more_few most bound v k (get_or (items xs a) k 0) w (sym e ∙ q)); same = on (Some (More w)) q ∙ rw (add-one k) refl }

      pub heads_last : (n : ℕ) → g ≡ Some (Last n) → Finds most bound xs a (Ok (record { number = n; next = a + k + 1 }))
      heads_last n q =
          let long : length (items xs a) ≡ length xs - a = length-take-le (length xs - a) (drop a xs) (omega (arith, length-drop a xs)) in
          let z : a + k + 1 ≡ length xs - length (drop (suc k) (items xs a)) = omega (arith, length-drop (suc k) (items xs a)) in
          finds most bound xs a (rw z (ap (found_of (length xs)) (sym (on (Some (Last n)) q))))

      pub heads_bad : g ≡ None → Finds most bound xs a (Err Bad)
      heads_bad q = finds most bound xs a (ap (found_of (length xs)) (sym (on None q)))
