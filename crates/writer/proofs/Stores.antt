-- What stores into pastes leave, and pastes one behind the other.
use mathlib.Core.Path.{◌≡◌, sym, ap, ◌∙◌}
use mathlib.Core.List.{List, ◌++◌, append_assoc}
use Prim.Native.Nat.{ℕ, ◌+◌, ◌≤◌, ◌<◌}
use native.Mathlib.Omega.{arith}
use lib.ListN.{length, set, take, drop, length-append}
use lib.Seq.{paste, take-paste, drop-paste, length-take-le, take_all, drop-drop, set-append_left, take-set-lt}
use Rattle.octets.proofs.Put.{set-append-add}

module _ (d s : List ℕ) (a n : ℕ) (hd : a + n ≤ length d) (hs : n ≤ length s) where
  -- a store inside what was pasted is one into what is pasted
  pub set-paste : (j v : ℕ) → j < n → set (paste d a s n) (a + j) v ≡ paste d a (set s j v) n
  set-paste j v h =
      let l : length (take a d) ≡ a = length-take-le a d (omega arith) in
      let m : length (take n s) ≡ n = length-take-le n s hs in
      set-append_left (take a d ++ take n s) (drop (a + n) d) (a + j) v (omega (arith, length-append (take a d) (take n s)))
      ∙ ap (λ (k : ℕ). set (take a d ++ take n s) (k + j) v ++ drop (a + n) d) (sym l)
      ∙ ap (λ (r : List ℕ). r ++ drop (a + n) d) (set-append-add (take a d) (take n s) j v)
      ∙ ap (λ (r : List ℕ). take a d ++ r ++ drop (a + n) d) (sym (take-set-lt n s j v h))

  -- two pastes, one behind the other, are one
  pub paste-paste : (c : List ℕ) (m : ℕ) → length c ≡ m → paste (paste d a s n) (a + n) c m ≡ paste d a (take n s ++ c) (n + m)
  paste-paste c m e =
      let p : List ℕ = paste d a s n in
      let l : length (take n s) ≡ n = length-take-le n s hs in
      let q : a + n + m ≡ a + (n + m) = omega arith in
      let whole : take (n + m) (take n s ++ c) ≡ take n s ++ c = take_all (n + m) (take n s ++ c) (omega (arith, length-append (take n s) c)) in
      let behind : drop (a + n + m) p ≡ drop (a + (n + m)) d =
      sym (drop-drop m (a + n) p) ∙ ap (drop m) (drop-paste d a s n (omega arith) hs) ∙ drop-drop m (a + n) d ∙ ap (λ (k : ℕ). drop k d) q in
      ap (λ (r : List ℕ). r ++ take m c ++ drop (a + n + m) p) (take-paste d a s n (omega arith) hs)
      ∙ ap (λ (r : List ℕ). take a d ++ take n s ++ r ++ drop (a + n + m) p) (take_all m c (omega arith))
      ∙ ap (λ (r : List ℕ). take a d ++ take n s ++ c ++ r) behind
      ∙ ap (λ (r : List ℕ). r ++ drop (a + (n + m)) d) (append_assoc (take a d) (take n s) c ∙ ap (λ (r : List ℕ). take a d ++ r) (sym whole))
