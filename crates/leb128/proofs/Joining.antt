-- Reading goes on over octets that come in parts; what is read as a number leaves the octets behind it as they stand.
use mathlib.Core.Path.{◌≡◌, refl, sym, ap, ◌∙◌}
use mathlib.Core.List.{List, [], ◌∷◌, ◌++◌}
use Prim.Native.Nat.{ℕ, suc, ◌+◌, ◌-◌, ◌≤◌, ◌<◌}
use native.Mathlib.Omega.{arith}
use lib.ListN.{length, drop, length-append, length-drop}
use lib.Seq.{drop_at, drop-drop}
use Rattle.leb128.specs.Number.{step_of, Head, number, short, none, head_from, head_of, found_of, found_at}
use Rattle.std.specs.Prelude.{Option, Some, None, Result, Ok, Err}
use Rattle.leb128.specs.declared.Group.{Group}
use Rattle.leb128.specs.declared.Group.TheVariants.{More, Last}
use Rattle.leb128.specs.declared.Found.{Found}
use Rattle.leb128.specs.declared.NumberError.{NumberError}
use Rattle.leb128.specs.declared.NumberError.TheVariants.{Short, Bad}

module _ (most bound : ℕ) where
  -- what the octets of a first part gave, with ys behind them
  abbrev pub go_on : Head → List ℕ → Head
  go_on (number n rest) ys = number n (rest ++ ys)
  go_on (short v k) ys = head_from most bound v k ys
  go_on none ys = none

  -- octet by octet, by what a step gives
  abbrev pub after : ℕ → List ℕ → Option Group → Head
  after k xs (Some (More w)) = head_from most bound w (k + 1) xs
  after k xs (Some (Last n)) = number n xs
  after k xs None = none

  pub head_after : (v k x : ℕ) (xs : List ℕ) → head_from most bound v k (x ∷ xs) ≡ after k xs (step_of most bound v k x)
  head_after v k x xs = go (step_of most bound v k x)
    where
      go : (g : Option Group) → elim g [ Some (More w) ↦ head_from most bound w (k + 1) xs | Some (Last n) ↦ number n xs | None ↦ none ] ≡ after k xs g
      go (Some (More w)) = refl
      go (Some (Last n)) = refl
      go None = refl

  pub head_join : (xs : List ℕ) (v k : ℕ) (ys : List ℕ) → head_from most bound v k (xs ++ ys) ≡ go_on (head_from most bound v k xs) ys
  head_join [] v k ys = refl
  head_join (x ∷ xs) v k ys =
      head_after v k x (xs ++ ys) ∙ go (λ w. head_join xs w (k + 1) ys) (step_of most bound v k x) ∙ ap (λ (h : Head). go_on h ys) (sym (head_after v k x xs))
    where
      go : ((w : ℕ) → head_from most bound w (k + 1) (xs ++ ys) ≡ go_on (head_from most bound w (k + 1) xs) ys)
          → (g : Option Group) → after k (xs ++ ys) g ≡ go_on (after k xs g) ys
      go ih (Some (More w)) = ih w
      go ih (Some (Last n)) = refl
      go ih None = refl

  -- each of too few octets is a group
  pub head_groups : (xs : List ℕ) (v k w j : ℕ) → head_from most bound v k xs ≡ short w j → j ≡ k + length xs
  head_groups [] v k w j e = let d : k ≡ j = cc in omega arith
  head_groups (x ∷ xs) v k w j e = go (λ u. head_groups xs u (k + 1) w j) (step_of most bound v k x) (sym (head_after v k x xs) ∙ e)
    where
      go : ((u : ℕ) → head_from most bound u (k + 1) xs ≡ short w j → j ≡ k + 1 + length xs) → (g : Option Group) → after k xs g ≡ short w j → j ≡ k + suc (length xs)
      go ih (Some (More u)) q = omega (arith, ih u q)
      go ih (Some (Last n)) q = absurd (let z : ◌≡◌ {A = ℕ} 0 1 = cc in omega arith)
      go ih None q = absurd (let z : ◌≡◌ {A = ℕ} 0 1 = cc in omega arith)

  -- what stands behind a number is the end of the octets
  pub record Behind (xs rest : List ℕ) : Type 0 where
    pub front : List ℕ
    pub text : xs ≡ front ++ rest
    pub some : 1 ≤ length front

  pub head_behind : (xs : List ℕ) (v k n : ℕ) (rest : List ℕ) → head_from most bound v k xs ≡ number n rest → Behind xs rest
  head_behind [] v k n rest e = absurd (let z : ◌≡◌ {A = ℕ} 0 1 = cc in omega arith)
  head_behind (x ∷ xs) v k n rest e = go (λ w. head_behind xs w (k + 1) n rest) (step_of most bound v k x) (sym (head_after v k x xs) ∙ e)
    where
      go : ((w : ℕ) → head_from most bound w (k + 1) xs ≡ number n rest → Behind xs rest)
          → (g : Option Group) → after k xs g ≡ number n rest → Behind (x ∷ xs) rest
      go ih (Some (More w)) q = let b = ih w q in record { front = x ∷ b.front; text = ap (λ (l : List ℕ). x ∷ l) b.text; some = omega arith }
      go ih (Some (Last m)) q = let d : xs ≡ rest = cc in record { front = x ∷ []; text = ap (λ (l : List ℕ). x ∷ l) d; some = omega arith }
      go ih None q = absurd (let z : ◌≡◌ {A = ℕ} 0 1 = cc in omega arith)

  -- ---- at an index

  -- what the octets xs from the index i on make of k groups of the value v
  module _ (v k : ℕ) (xs : List ℕ) (i : ℕ) where
    abbrev pub part_at : Result Found NumberError
    part_at = found_of (length xs) (head_from most bound v k (drop i xs))

    -- what is found there, as a head: the octets behind a number are those from its end on
    pub record FoundNumber (n s : ℕ) : Type 0 where
      pub head : head_from most bound v k (drop i xs) ≡ number n (drop s xs)
      pub later : i < s
      pub within : s ≤ length xs

    pub part_number : (n s : ℕ) → part_at ≡ Ok (record { number = n; next = s }) → FoundNumber n s
    part_number n s e = go (head_from most bound v k (drop i xs)) refl e
      where
        go : (h : Head) → head_from most bound v k (drop i xs) ≡ h → found_of (length xs) h ≡ Ok (record { number = n; next = s }) → FoundNumber n s
        go (number m rest) q d =
            let f : ◌≡◌ {A = Found} (record { number = m; next = length xs - length rest }) (record { number = n; next = s }) = cc in
            let em : m ≡ n = ap (λ (r : Found). r.number) f in
            let es : s ≡ length xs - length rest = ap (λ (r : Found). r.next) (sym f) in
            let b = head_behind (drop i xs) v k m rest q in
            let l : length xs - i ≡ length b.front + length rest = sym (length-drop i xs) ∙ ap length b.text ∙ length-append b.front rest in
            let f = b.some in
            let at : i + length b.front ≡ s = omega arith in
            let er : drop s xs ≡ rest = ap (λ (j : ℕ). drop j xs) (sym at) ∙ sym (drop-drop (length b.front) i xs) ∙ ap (drop (length b.front)) b.text ∙ drop_at b.front rest (length b.front) refl in
            record { head = q ∙ ap (λ (j : ℕ). number j rest) em ∙ ap (number n) (sym er); later = omega arith; within = omega arith }
        go (short w j) q d = absurd (let z : ◌≡◌ {A = ℕ} 0 1 = cc in omega arith)
        go none q d = absurd (let z : ◌≡◌ {A = ℕ} 0 1 = cc in omega arith)

    -- too few octets: the groups so far, of which each octet is one
    pub record PartShort : Type 0 where
      pub value : ℕ
      pub groups : ℕ
      pub head : head_from most bound v k (drop i xs) ≡ short value groups
      pub each : groups ≡ k + length (drop i xs)

    pub part_more : part_at ≡ Err Short → PartShort
    part_more e = go (head_from most bound v k (drop i xs)) refl e
      where
        go : (h : Head) → head_from most bound v k (drop i xs) ≡ h → found_of (length xs) h ≡ Err Short → PartShort
        go (number m rest) q d = absurd (let z : ◌≡◌ {A = ℕ} 0 1 = cc in omega arith)
        go (short w j) q d = record { value = w; groups = j; head = q; each = head_groups (drop i xs) v k w j q }
        go none q d = absurd (let z : ◌≡◌ {A = ℕ} 0 1 = cc in omega arith)

    pub part_bad : part_at ≡ Err Bad → head_from most bound v k (drop i xs) ≡ none
    part_bad e = go (head_from most bound v k (drop i xs)) refl e
      where
        go : (h : Head) → head_from most bound v k (drop i xs) ≡ h → found_of (length xs) h ≡ Err Bad → head_from most bound v k (drop i xs) ≡ none
        go (number m rest) q d = absurd (let z : ◌≡◌ {A = ℕ} 0 1 = cc in omega arith)
        go (short w j) q d = absurd (let z : ◌≡◌ {A = ℕ} 0 1 = cc in omega arith)
        go none q d = q

  -- where no groups stand before
  module _ (xs : List ℕ) (i : ℕ) where
    pub found_number : (n s : ℕ) → found_at most bound xs i ≡ Ok (record { number = n; next = s }) → FoundNumber 0 0 xs i n s
    found_number n s e = part_number 0 0 xs i n s e

    abbrev pub FoundShort : Type 0
    FoundShort = PartShort 0 0 xs i

    pub found_short : found_at most bound xs i ≡ Err Short → FoundShort
    found_short e = part_more 0 0 xs i e

    pub found_bad : found_at most bound xs i ≡ Err Bad → head_of most bound (drop i xs) ≡ none
    found_bad e = part_bad 0 0 xs i e
