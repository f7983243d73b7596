-- Blocks of a list that are copied one behind another, and a last one that may overlap the one before.
use Rattle.std.proofs.Common.{◌≡◌, List, ◌++◌, ℕ, ◌+◌, ◌≤◌, length, take, drop, refl, sym, ap, ◌∙◌, arith}
use Rattle.std.proofs.lemmas.List.{take-take, take_all, length-take-le, length-drop}
use Rattle.std.proofs.lemmas.Slice.{take-put_mid}
use Rattle.std.proofs.Math.Seq.{take-add}
use borrow.Rule.Slice.PartMut.{put_mid, same_len_mid}

-- d has the first a of s; then y, the next k of s, is stored behind them
pub block_put : (s d y : List ℕ) (a k n : ℕ) → n ≡ a + k → n ≤ length s → length d ≡ length s → take a d ≡ take a s → y ≡ take k (drop a s)
    → take n (put_mid a k d y) ≡ take n s
block_put s d y a k n q h l e ey =
    let m : length y ≡ k = ap length ey ∙ length-take-le k (drop a s) (omega (arith, length-drop a s)) in
    take-put_mid a k d y n (omega arith) (omega arith)
    ∙ ap (λ (x : List ℕ). x ++ y) e
    ∙ ap (λ (x : List ℕ). take a s ++ x) ey
    ∙ sym (take-add a k s)
    ∙ ap (λ (j : ℕ). take j s) (sym q)

-- d has the first i of s; then y, the last k of s, is stored from the index a on, at most i
pub last_put : (s d y : List ℕ) (a k j i : ℕ) → a + k ≡ length s → j ≡ k → length d ≡ length s → a ≤ i → take i d ≡ take i s
    → y ≡ take j (drop a s) → put_mid a k d y ≡ s
last_put s d y a k j i q r l h e ej =
    let ey : y ≡ take k (drop a s) = ej ∙ ap (λ (m : ℕ). take m (drop a s)) r in
    let f : take a d ≡ take a s = sym (take-take a i d h) ∙ ap (λ (x : List ℕ). take a x) e ∙ take-take a i s h in
    let m : length y ≡ k = ap length ey ∙ length-take-le k (drop a s) (omega (arith, length-drop a s)) in
    let n : length (take k (drop a d)) ≡ k = length-take-le k (drop a d) (omega (arith, length-drop a d)) in
    let w : length (put_mid a k d y) ≡ length d = same_len_mid a k d y (m ∙ sym n) in
    sym (take_all (a + k) (put_mid a k d y) (omega arith))
    ∙ block_put s d y a k (a + k) refl (omega arith) l f ey
    ∙ take_all (a + k) s (omega arith)
