-- `Bad` is given exactly where no further octets make a number, and `Short` exactly where some do: a bad number is refused from
-- the first octet that leaves no good one possible. The bound has to leave room for the last group of the longest number.
use mathlib.Core.Path.{◌≡◌, refl, sym, ap, ◌∙◌}
use mathlib.Core.Logic.{◌⊎◌, inl, inr}
use mathlib.Core.List.{List, [], ◌∷◌, ◌++◌, append-nil}
use Prim.Native.Nat.{ℕ, zero, suc, ◌+◌, ◌-◌, ◌*◌, ◌/◌, ◌%◌, ◌^◌, ◌≤◌, ◌<◌}
use native.Mathlib.Nat.{pow-suc, pow-le-pow_right, one-le-pow}
use native.Mathlib.Numerals.{add-one}
use native.Mathlib.Omega.{arith}
use lib.ListN.{length, get_or, length-append}
use Rattle.leb128.specs.Number.{groups_of, Within, Partial, step_of, Head, number, short, none, head_from, head_of}
use Rattle.leb128.specs.Possible.{Possible, Begun}
use Rattle.std.specs.Prelude.{Option, Some, None}
use Rattle.leb128.specs.declared.Group.{Group}
use Rattle.leb128.specs.declared.Group.TheVariants.{More, Last}
use Rattle.octets.proofs.Order.{below_or}
use Rattle.leb128.proofs.Steps.{held_more, more_right, more_many, step_more, last_not_more}
use Rattle.leb128.proofs.Exact.{sound, complete, regroup}
use Rattle.leb128.proofs.Groups.{groups_one, groups_more}
use Rattle.leb128.proofs.Joining.{go_on, after, head_after, head_join}

-- room for a last group of 1 behind any others: the premise on the bound
pub record Roomy (most bound : ℕ) : Type 0 where
  pub some : 1 ≤ most
  pub few : most ≤ 9
  pub room : 2 * 128 ^ (most - 1) ≤ bound + 1

module _ (most bound : ℕ) (roomy : Roomy most bound) where
  -- behind k groups of the value v: the octets xs and then a group of 1 are those of a number's other groups
  record Goes (j v k : ℕ) (xs : List ℕ) : Type 0 where
    other : ℕ
    text : groups_of j other ≡ xs ++ (1 ∷ [])
    held : other < 128 ^ j
    some : 1 ≤ other
    small : v + other * 128 ^ k ≤ bound

  never : {v k n : ℕ} {rest : List ℕ} → number n rest ≡ short v k → ⊥
  never e = let z : ◌≡◌ {A = ℕ} 0 1 = cc in omega arith

  nothing : {v k : ℕ} → none ≡ short v k → ⊥
  nothing e = let z : ◌≡◌ {A = ℕ} 0 1 = cc in omega arith

  goes : (xs : List ℕ) (j v k w l : ℕ) → ((i : ℕ) → get_or xs i 0 < 256) → v < 128 ^ k → j + k ≡ most → 1 ≤ j
      → head_from most bound v k xs ≡ short w l → Goes j v k xs
  goes [] zero v k w l o hv e some q = absurd (omega arith)
  goes [] (suc j) v k w l o hv e some q =
      let p : 128 ^ k ≤ 128 ^ (most - 1) = pow-le-pow_right {n = 128} (omega arith) {i = k} {j = most - 1} (omega arith) in
      record {
        other = 1;
        text = groups_one j 1 (omega arith);
        held = omega (arith, pow-suc 128 j, one-le-pow j 128 (omega arith));
        some = omega arith;
        small = omega (arith, roomy.room);
      }
  goes (x ∷ xs) zero v k w l o hv e some q = absurd (omega arith)
  goes (x ∷ xs) (suc j) v k w l o hv e some q =
      go (λ u hu ej s d. goes xs j u (k + 1) w l (λ i. o (suc i)) hu ej s d) (below_or x 128) (below_or (k + 1) most)
    where
      part : Partial v k
      part = record { few = omega (arith, roomy.few); held = hv }

      by : after most bound k xs (step_of most bound v k x) ≡ short w l
      by = sym (head_after most bound v k x xs) ∙ q

      go : ((u : ℕ) → u < 128 ^ (k + 1) → j + (k + 1) ≡ most → 1 ≤ j → head_from most bound u (k + 1) xs ≡ short w l → Goes j u (k + 1) xs)
          → (x < 128) ⊎ (128 ≤ x) → (k + 1 < most) ⊎ (most ≤ k + 1) → Goes (suc j) v k (x ∷ xs)
      go ih (inl h) t = absurd (last (step_of most bound v k x) refl by)
        where
          last : (g : Option Group) → step_of most bound v k x ≡ g → after most bound k xs g ≡ short w l → ⊥
          last (Some (More u)) eg d = last_not_more most bound v k x u part (omega arith) h eg
          last (Some (Last n)) eg d = never d
          last None eg d = nothing d
      go ih (inr h) (inr t) = absurd (nothing (ap (after most bound k xs) (more_many most v k x t ∙ step_more most bound v k x part (omega arith) h) ∙ by))
      go ih (inr h) (inl t) =
          let hx : x < 256 = o 0 in
          let g = ih (v + (x - 128) * 128 ^ k) (held_more v k (x - 128) hv (omega arith)) (omega arith) (omega arith)
          (ap (after most bound k xs) (more_right most v k x t refl ∙ step_more most bound v k x part (omega arith) h) ∙ by) in
          let m : ℕ = g.other in
          let b : 128 ≤ x - 128 + m * 128 = omega (arith, g.some) in
          let low : 128 + (x - 128 + m * 128) % 128 ≡ x = omega arith in
          let high : (x - 128 + m * 128) / 128 ≡ m = omega arith in
          let powk : 128 ^ (k + 1) ≡ 128 ^ k * 128 = rw (add-one k) (pow-suc 128 k) in
          let value : v + (x - 128) * 128 ^ k + m * 128 ^ (k + 1) ≡ v + (x - 128 + m * 128) * 128 ^ k = rw powk (regroup v (x - 128) m (128 ^ k)) in
          record {
            other = x - 128 + m * 128;
            text = groups_more j (x - 128 + m * 128) b ∙ ap (λ (y : ℕ). y ∷ groups_of j ((x - 128 + m * 128) / 128)) low ∙ ap (λ (y : ℕ). x ∷ groups_of j y) high ∙ ap (λ (t : List ℕ). x ∷ t) g.text;
            held = omega (arith, pow-suc 128 j, g.held);
            some = omega arith;
            small = omega (arith, value, g.small);
          }

  module _ (xs : List ℕ) where
    -- ---- too few octets: a number's octets begin with these, and go on

    pub short_begun : ((i : ℕ) → get_or xs i 0 < 256) → (v k : ℕ) → head_of most bound xs ≡ short v k → Begun most bound xs
    short_begun o v k q =
        let g = goes xs most 0 0 v k o (omega arith) (omega arith) roomy.some q in
        record { value = g.other; next = 1; further = []; good = record { groups = g.held; small = omega (arith, g.small) }; text = g.text }

    read : (n : ℕ) (ys rest : List ℕ) → Within most bound n → xs ++ ys ≡ groups_of most n ++ rest → go_on most bound (head_of most bound xs) ys ≡ number n rest
    read n ys rest w e =
        sym (head_join most bound xs 0 0 ys) ∙ ap (head_of most bound) e ∙ complete most bound roomy.few roomy.some n rest w

    pub record Shortage : Type 0 where
      pub value : ℕ
      pub groups : ℕ
      pub head : head_of most bound xs ≡ short value groups

    pub begun_short : Begun most bound xs → Shortage
    begun_short b =
        go (head_of most bound xs) refl
        (read b.value (b.next ∷ b.further) [] b.good (sym b.text ∙ sym (append-nil (groups_of most b.value))))
      where
        go : (h : Head) → head_of most bound xs ≡ h → go_on most bound h (b.next ∷ b.further) ≡ number b.value [] → Shortage
        go (number m rest) q d =
            let e : rest ++ (b.next ∷ b.further) ≡ [] = cc in
            absurd (omega (arith, ap length e, length-append rest (b.next ∷ b.further)))
        go (short v k) q d = record { value = v; groups = k; head = q }
        go none q d = absurd (let z : ◌≡◌ {A = ℕ} 0 1 = cc in omega arith)

    -- ---- no number: whatever octets follow

    pub none_impossible : head_of most bound xs ≡ none → Possible most bound xs → ⊥
    none_impossible q p =
        let d : none ≡ number p.value p.rest =
        ap (λ (h : Head). go_on most bound h p.further) (sym q) ∙ read p.value p.further p.rest p.good p.text in
        let z : ◌≡◌ {A = ℕ} 0 1 = cc in
        omega arith

    pub impossible_none : ((i : ℕ) → get_or xs i 0 < 256) → (Possible most bound xs → ⊥) → head_of most bound xs ≡ none
    impossible_none o f = go (head_of most bound xs) refl
      where
        go : (h : Head) → head_of most bound xs ≡ h → head_of most bound xs ≡ none
        go (number n rest) q =
            let s = sound most bound roomy.few xs n rest o q in
            absurd (f (record { value = n; further = []; rest = rest; good = s.1; text = append-nil xs ∙ s.0 }))
        go (short v k) q =
            let b = short_begun o v k q in
            absurd (f (record { value = b.value; further = b.next ∷ b.further; rest = []; good = b.good; text = sym b.text ∙ sym (append-nil (groups_of most b.value)) }))
        go none q = q
