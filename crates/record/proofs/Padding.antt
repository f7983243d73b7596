-- Arrays whose unused places are 0: the next place filled, the last cleared, and what the used ones hold.
use Rattle.std.proofs.Common.{◌≡◌, ℕ, suc, ◌+◌, ◌-◌, ◌≤◌, ◌<◌, List, [], ◌∷◌, ◌++◌, length, get_or, set, take, replicate, sym, ap, ◌∙◌, append_assoc, length-append, length-set, arith}
use Rattle.std.proofs.Math.Seq.{get_or_at, set_at, set_comm, set-append_left, take_at}
use Rattle.std.proofs.Math.ListN.{get_or-append}
use Rattle.record.specs.Afresh.{padded}

module _ (m : ℕ) (ns : List ℕ) (h : length ns < m) where
  next_place : padded m ns ≡ ns ++ (0 ∷ replicate (m - suc (length ns)) 0)
  unfolding padded
  next_place =
      let e : m - length ns ≡ suc (m - suc (length ns)) = omega arith in
      ap (λ (j : ℕ). ns ++ replicate j 0) e

  module _ (v i : ℕ) (is : i ≡ length ns) where
    last_place : padded m (ns ++ (v ∷ [])) ≡ ns ++ (v ∷ replicate (m - suc (length ns)) 0)
    unfolding padded
    last_place =
        let e : m - length (ns ++ (v ∷ [])) ≡ m - suc (length ns) = omega (arith, length-append ns (v ∷ [])) in
        ap (λ (j : ℕ). (ns ++ (v ∷ [])) ++ replicate j 0) e ∙ append_assoc ns (v ∷ []) (replicate (m - suc (length ns)) 0)

    pub fill : set (padded m ns) i v ≡ padded m (ns ++ (v ∷ []))
    fill = ap (λ (l : List ℕ). set l i v) next_place ∙ set_at ns 0 (replicate (m - suc (length ns)) 0) v i (sym is) ∙ sym last_place

    pub clear : set (padded m (ns ++ (v ∷ []))) i 0 ≡ padded m ns
    clear = ap (λ (l : List ℕ). set l i 0) last_place ∙ set_at ns v (replicate (m - suc (length ns)) 0) 0 i (sym is) ∙ sym next_place

-- the second number of a row
pub get_d_second : (ns : List ℕ) (v w : ℕ) (zs : List ℕ) (i : ℕ) → length ns ≡ i → get_or (ns ++ (v ∷ w ∷ zs)) (i + 1) 0 ≡ w
get_d_second ns v w zs i e =
    ap (λ (l : List ℕ). get_or l (i + 1) 0) (sym (append_assoc ns (v ∷ []) (w ∷ zs))) ∙ get_or_at (ns ++ (v ∷ [])) w zs 0 (i + 1) (omega (arith, length-append ns (v ∷ [])))

-- the two numbers of a row
module _ (m : ℕ) (ns : List ℕ) (h : length ns + 2 ≤ m) (v w i : ℕ) (is : i ≡ length ns) where
  both : (ns ++ (v ∷ [])) ++ (w ∷ []) ≡ ns ++ (v ∷ w ∷ [])
  both = append_assoc ns (v ∷ []) (w ∷ [])

  pub fill_two : set (set (padded m ns) i v) (i + 1) w ≡ padded m (ns ++ (v ∷ w ∷ []))
  fill_two =
      ap (λ (l : List ℕ). set l (i + 1) w) (fill m ns (omega arith) v i is)
      ∙ fill m (ns ++ (v ∷ [])) (omega (arith, length-append ns (v ∷ []))) w (i + 1) (omega (arith, length-append ns (v ∷ [])))
      ∙ ap (padded m) both

  pub clear_two : set (set (padded m (ns ++ (v ∷ w ∷ []))) i 0) (i + 1) 0 ≡ padded m ns
  clear_two =
      set_comm (padded m (ns ++ (v ∷ w ∷ []))) i (i + 1) 0 0 (λ e. omega arith)
      ∙ ap (λ (l : List ℕ). set (set (padded m l) (i + 1) 0) i 0) (sym both)
      ∙ ap (λ (l : List ℕ). set l i 0) (clear m (ns ++ (v ∷ [])) (omega (arith, length-append ns (v ∷ []))) w (i + 1) (omega (arith, length-append ns (v ∷ []))))
      ∙ clear m ns (omega arith) v i is

module _ (m : ℕ) (ns : List ℕ) where
  pub get_d_padded : (i : ℕ) → i < length ns → get_or (padded m ns) i 0 ≡ get_or ns i 0
  unfolding padded
  get_d_padded i h = get_or-append ns (replicate (m - length ns) 0) 0 i h

  -- two used places set anew
  pub take-set_two : (n i v w : ℕ) → n ≡ length ns → i + 2 ≤ length ns → take n (set (set (padded m ns) i v) (i + 1) w) ≡ set (set ns i v) (i + 1) w
  unfolding padded
  take-set_two n i v w e h =
      let zs : List ℕ = replicate (m - length ns) 0 in
      ap (λ (l : List ℕ). take n (set l (i + 1) w)) (set-append_left ns zs i v (omega arith))
      ∙ ap (take n) (set-append_left (set ns i v) zs (i + 1) w (omega (arith, length-set ns i v)))
      ∙ take_at (set (set ns i v) (i + 1) w) zs n (length-set (set ns i v) (i + 1) w ∙ length-set ns i v ∙ sym e)
