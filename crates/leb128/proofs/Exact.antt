-- Reading is exact: a number is read off the front of some octets exactly if its octets stand there, and each number has one
-- text.
use mathlib.Core.Path.{◌≡◌, refl, sym, ap, ◌∙◌}
use mathlib.Core.Logic.{◌⊎◌, inl, inr}
use mathlib.Core.List.{List, [], ◌∷◌, ◌++◌}
use Prim.Native.Nat.{ℕ, zero, suc, ◌+◌, ◌-◌, ◌*◌, ◌/◌, ◌%◌, ◌^◌, ◌≤◌, ◌<◌}
use native.Mathlib.Nat.{pow-suc, one-le-pow, add-mul, mul_assoc, mul_right_comm}
use native.Mathlib.Numerals.{add-one}
use native.Mathlib.Omega.{arith}
use lib.ListN.{get_or}
use Rattle.leb128.specs.Number.{groups_of, Within, Partial, last_group, more_groups, step_of, Head, number, none, head_from, head_of}
use Rattle.std.specs.Prelude.{Option, Some, None}
use Rattle.leb128.specs.declared.Group.{Group}
use Rattle.leb128.specs.declared.Group.TheVariants.{More, Last}
use Rattle.octets.proofs.Order.{below_or}
use Rattle.leb128.proofs.Steps.{held_more, last_zero, last_over, last_right, more_right, more_many}
use Rattle.leb128.proofs.Steps.{step_full, step_last, step_more}
use Rattle.leb128.proofs.Groups.{groups_one, groups_more}

-- a value of groups, its lowest one apart
pub regroup : (v a b w : ℕ) → v + a * w + b * (w * 128) ≡ v + (a + b * 128) * w
regroup v a b w = rw (add-mul a (b * 128) w, mul_right_comm b 128 w, mul_assoc b w 128) (omega arith)

module _ (most bound : ℕ) (top : most ≤ 9) where
  -- ---- one octet

  abbrev after : (k : ℕ) (xs : List ℕ) → Option Group → Head
  after k xs (Some (More w)) = head_from most bound w (k + 1) xs
  after k xs (Some (Last n)) = number n xs
  after k xs None = none

  head_after : (v k x : ℕ) (xs : List ℕ) → head_from most bound v k (x ∷ xs) ≡ after k xs (step_of most bound v k x)
  head_after v k x xs = go (step_of most bound v k x)
    where
      go : (g : Option Group) → elim g [ Some (More w) ↦ head_from most bound w (k + 1) xs | Some (Last n) ↦ number n xs | None ↦ none ] ≡ after k xs g
      go (Some (More w)) = refl
      go (Some (Last n)) = refl
      go None = refl

  -- no group may follow
  head_full : (v k x : ℕ) (xs : List ℕ) → most ≤ k → head_from most bound v k (x ∷ xs) ≡ none
  head_full v k x xs l = head_after v k x xs ∙ ap (after k xs) (sym (step_full most bound v k x l))

  module _ (v k x : ℕ) (xs : List ℕ) (p : Partial v k) (f : k < most) where
    -- the head from the groups so far and this octet on, where the octet is the last group, or not
    head_last : x < 128 → head_from most bound v k (x ∷ xs) ≡ after k xs (last_group bound v k x)
    head_last h = head_after v k x xs ∙ ap (after k xs) (sym (step_last most bound v k x p f h))

    head_more : 128 ≤ x → head_from most bound v k (x ∷ xs) ≡ after k xs (more_groups most v k x)
    head_more h = head_after v k x xs ∙ ap (after k xs) (sym (step_more most bound v k x p f h))

    -- a last group that is in the shortest form and within the bound
    head_number : x < 128 → (1 ≤ k → 1 ≤ x) → v + x * 128 ^ k ≤ bound → head_from most bound v k (x ∷ xs) ≡ number (v + x * 128 ^ k) xs
    head_number h nz small = head_last h ∙ ap (after k xs) (sym (last_right bound v k x nz refl small))

    head_next : 128 ≤ x → k + 1 < most → head_from most bound v k (x ∷ xs) ≡ head_from most bound (v + (x - 128) * 128 ^ k) (k + 1) xs
    head_next h l = head_more h ∙ ap (after k xs) (sym (more_right most v k x l refl))

  -- ---- complete

  pub fed : (j v k n : ℕ) (rest : List ℕ) → v < 128 ^ k → j + k ≡ most → n < 128 ^ j → 1 ≤ j → (1 ≤ k → 1 ≤ n) → v + n * 128 ^ k ≤ bound
      → head_from most bound v k (groups_of j n ++ rest) ≡ number (v + n * 128 ^ k) rest
  fed zero v k n rest hv e hn hj nz small = absurd (omega arith)
  fed (suc j) v k n rest hv e hn hj nz small = go (λ w m hw ek hm hi some l. fed j w (k + 1) m rest hw ek hm hi some l) (below_or n 128)
    where
      part : Partial v k
      part = record { few = omega arith; held = hv }

      pow : 128 ^ (suc j) ≡ 128 ^ j * 128
      pow = pow-suc 128 j

      powk : 128 ^ (k + 1) ≡ 128 ^ k * 128
      powk = rw (add-one k) (pow-suc 128 k)

      value : v + n % 128 * 128 ^ k + n / 128 * 128 ^ (k + 1) ≡ v + n * 128 ^ k
      value =
          let split : n % 128 + n / 128 * 128 ≡ n = omega arith in
          rw powk (regroup v (n % 128) (n / 128) (128 ^ k)) ∙ ap (λ (m : ℕ). v + m * 128 ^ k) split

      some : (i : ℕ) → n < 128 ^ i * 128 → 128 ≤ n → 1 ≤ i
      some zero l h = absurd (omega arith)
      some (suc i) l h = omega arith

      go : ((w m : ℕ) → w < 128 ^ (k + 1) → j + (k + 1) ≡ most → m < 128 ^ j → 1 ≤ j → (1 ≤ k + 1 → 1 ≤ m) → w + m * 128 ^ (k + 1) ≤ bound
          → head_from most bound w (k + 1) (groups_of j m ++ rest) ≡ number (w + m * 128 ^ (k + 1)) rest)
          → (n < 128) ⊎ (128 ≤ n) → head_from most bound v k (groups_of (suc j) n ++ rest) ≡ number (v + n * 128 ^ k) rest
      go ih (inl h) = rw (groups_one j n h) (head_number v k n rest part (omega arith) h nz small)
      go ih (inr h) =
          let i : 1 ≤ j = some j (rw pow at hn) h in
          let x : (128 + n % 128) - 128 ≡ n % 128 = omega arith in
          rw (groups_more j n h)
          (head_next v k (128 + n % 128) (groups_of j (n / 128) ++ rest) part (omega arith) (omega arith) (omega arith)
          ∙ ap (λ (m : ℕ). head_from most bound (v + m * 128 ^ k) (k + 1) (groups_of j (n / 128) ++ rest)) x
          ∙ ih (v + n % 128 * 128 ^ k) (n / 128) (held_more v k (n % 128) hv (omega arith)) (omega arith) (omega (arith, rw pow at hn)) i (λ q. omega arith) (omega (arith, value))
          ∙ ap (λ (m : ℕ). number m rest) value)

  -- ---- sound

  -- the octets xs, behind k groups of the value v, are those of the number's other groups, and then the rest
  record Found (j v k : ℕ) (xs : List ℕ) (n : ℕ) (rest : List ℕ) : Type 0 where
    other : ℕ
    text : xs ≡ groups_of j other ++ rest
    value : n ≡ v + other * 128 ^ k
    held : other < 128 ^ j
    shortest : 1 ≤ k → 1 ≤ other
    small : n ≤ bound

  never : {n : ℕ} {rest : List ℕ} → none ≡ number n rest → ⊥
  never e = let z : ◌≡◌ {A = ℕ} 0 1 = cc in omega arith

  found : (xs : List ℕ) (j v k n : ℕ) (rest : List ℕ) → ((i : ℕ) → get_or xs i 0 < 256) → v < 128 ^ k → j + k ≡ most
      → head_from most bound v k xs ≡ number n rest → Found j v k xs n rest
  found [] j v k n rest o hv e q = absurd (let z : ◌≡◌ {A = ℕ} 0 1 = cc in omega arith)
  found (x ∷ xs) zero v k n rest o hv e q = absurd (never (sym (head_full v k x xs (omega arith)) ∙ q))
  found (x ∷ xs) (suc j) v k n rest o hv e q = go (λ w hw ek d. found xs j w (k + 1) n rest (λ i. o (suc i)) hw ek d) (below_or x 128)
    where
      part : Partial v k
      part = record { few = omega arith; held = hv }

      few : k < most
      few = omega arith

      last : x < 128 → (1 ≤ k → 1 ≤ x) → v + x * 128 ^ k ≤ bound → Found (suc j) v k (x ∷ xs) n rest
      last h nz small =
          let d : number (v + x * 128 ^ k) xs ≡ number n rest = sym (head_number v k x xs part few h nz small) ∙ q in
          let dn : n ≡ v + x * 128 ^ k = cc in
          let dr : xs ≡ rest = cc in
          record {
            other = x;
            text = rw (groups_one j x h) (ap (λ (r : List ℕ). x ∷ r) dr);
            value = dn;
            held = omega (arith, pow-suc 128 j, one-le-pow j 128 (omega arith));
            shortest = nz;
            small = omega (arith, dn);
          }

      go : ((w : ℕ) → w < 128 ^ (k + 1) → j + (k + 1) ≡ most → head_from most bound w (k + 1) xs ≡ number n rest → Found j w (k + 1) xs n rest)
          → (x < 128) ⊎ (128 ≤ x) → Found (suc j) v k (x ∷ xs) n rest
      go ih (inl h) = final (form (below_or 0 x) (below_or 0 k)) (below_or bound (v + x * 128 ^ k))
        where
          form : (0 < x) ⊎ (x ≤ 0) → (0 < k) ⊎ (k ≤ 0) → ((x ≡ 0) × (0 < k)) ⊎ (1 ≤ k → 1 ≤ x)
          form (inr z) (inl y) = inl (omega arith, y)
          form (inl z) y = inr (λ d. z)
          form (inr z) (inr y) = inr (λ d. absurd (omega arith))

          final : ((x ≡ 0) × (0 < k)) ⊎ (1 ≤ k → 1 ≤ x) → (bound < v + x * 128 ^ k) ⊎ (v + x * 128 ^ k ≤ bound) → Found (suc j) v k (x ∷ xs) n rest
          final (inl z) b = absurd (never (ap (after k xs) (last_zero bound v k x z.0 z.1) ∙ sym (head_last v k x xs part few h) ∙ q))
          final (inr nz) (inl b) = absurd (never (ap (after k xs) (last_over bound v k x nz refl b) ∙ sym (head_last v k x xs part few h) ∙ q))
          final (inr nz) (inr b) = last h nz b
      go ih (inr h) = further (below_or (k + 1) most)
        where
          onward : k + 1 < most → Found j (v + (x - 128) * 128 ^ k) (k + 1) xs n rest → Found (suc j) v k (x ∷ xs) n rest
          onward l f =
              let m : ℕ = (x - 128) + f.other * 128 in
              let some : 1 ≤ f.other = f.shortest (omega arith) in
              let powk : 128 ^ (k + 1) ≡ 128 ^ k * 128 = rw (add-one k) (pow-suc 128 k) in
              let low : 128 + m % 128 ≡ x = omega (arith, o 0) in
              let high : m / 128 ≡ f.other = omega (arith, o 0) in
              record {
                other = m;
                text = rw (groups_more j m (omega arith), low, high) (ap (λ (r : List ℕ). x ∷ r) f.text);
                value = f.value ∙ rw powk (regroup v (x - 128) f.other (128 ^ k));
                held = omega (arith, pow-suc 128 j, f.held, o 0);
                shortest = λ d. omega arith;
                small = f.small;
              }

          further : (k + 1 < most) ⊎ (most ≤ k + 1) → Found (suc j) v k (x ∷ xs) n rest
          further (inl l) =
              onward l
              (ih (v + (x - 128) * 128 ^ k) (held_more v k (x - 128) hv (omega (arith, o 0))) (omega arith)
              (sym (head_next v k x xs part few h l) ∙ q))
          further (inr l) = absurd (never (ap (after k xs) (more_many most v k x l) ∙ sym (head_more v k x xs part few h) ∙ q))

  -- ---- the theorem

  -- what is read as a number: its octets stand there, and it is within the bounds
  pub sound : (xs : List ℕ) (n : ℕ) (rest : List ℕ) → ((i : ℕ) → get_or xs i 0 < 256) → head_of most bound xs ≡ number n rest
      → (xs ≡ groups_of most n ++ rest) × Within most bound n
  sound xs n rest o q =
      let f = found xs most 0 0 n rest o (omega arith) (omega arith) q in
      let e : f.other ≡ n = omega (arith, f.value) in
      (f.text ∙ ap (λ (m : ℕ). groups_of most m ++ rest) e, record { groups = rw e at f.held; small = f.small })

  -- the octets of a number within the bounds are read as that number, where a group may stand at all
  pub complete : 1 ≤ most → (n : ℕ) (rest : List ℕ) → Within most bound n → head_of most bound (groups_of most n ++ rest) ≡ number n rest
  complete some n rest w =
      let e : 0 + n * 128 ^ 0 ≡ n = omega arith in
      fed most 0 0 n rest (omega arith) (omega arith) w.groups some (λ q. absurd (omega arith)) (omega (arith, w.small))
      ∙ ap (λ (m : ℕ). number m rest) e

  -- two numbers within the bounds with one text are the same
  pub unique : (n m : ℕ) → Within most bound n → Within most bound m → groups_of most n ≡ groups_of most m → n ≡ m
  unique n m a b e = go (below_or 0 most)
    where
      go : (0 < most) ⊎ (most ≤ 0) → n ≡ m
      go (inl some) =
          let d : number n [] ≡ number m [] =
          sym (complete some n [] a) ∙ ap (λ (t : List ℕ). head_of most bound (t ++ [])) e ∙ complete some m [] b in
          cc
      go (inr z) =
          let q : most ≡ 0 = omega arith in
          let p : 128 ^ most ≡ 1 = rw q refl in
          omega (arith, a.groups, b.groups)
