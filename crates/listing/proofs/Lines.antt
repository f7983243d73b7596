-- How long a line is, the word of the last one, and the number of the next.
use mathlib.Core.Path.{◌≡◌, refl, ap, ◌∙◌}
use mathlib.Core.Bool.{Bool, true, false, cond}
use mathlib.Core.List.{List, [], ◌∷◌, ◌++◌}
use mathlib.Core.Logic.{◌⊎◌, inl, inr}
use Prim.Native.Nat.{ℕ, ◌+◌, ◌≤◌, ◌<◌, min}
use lib.Dec.{ltb}
use Rattle.octets.proofs.Order.{below_or}
use native.Mathlib.Omega.{arith}
use lib.ListN.{length, length-append}
use borrow.Author.Tests.{lt-ltb, le-ltb}
use Rattle.refusal.specs.Numbers.{number_of}
use Rattle.wire.specs.Walk.{Walk, at, refused, read_of}
use Rattle.wire.specs.declared.Framing.TheVariants.{Unframed}
use Rattle.clock.specs.Time.{ticks_of}
use Rattle.listing.specs.Line.{decimal, ok_word, refused_word, end_word, cut_word, numbered, line_with, line_of, payload_line, last_line}
use Rattle.listing.specs.Listing.{following, is_whole, closing_line}
use Rattle.listing.specs.declared.State.{State}
use Rattle.listing.proofs.Digits.{decimal_long}

-- ---- a word and a number

pub numbered_long : (w : List ℕ) (n : ℕ) → length (numbered w n) ≤ length w + 20
numbered_long w n = omega (arith, length-append w (decimal n), decimal_long n)

-- ---- a payload line

-- any payload line has at most 71 octets
with_long : (n : ℕ) (w : List ℕ) (x y : ℕ) → length w ≤ 9 → length (line_with n w x y) ≤ 71
with_long n w x y h =
    omega (
      arith,
      length-append (decimal n ++ numbered w x ++ numbered (32 ∷ []) y) (10 ∷ []),
      length-append (decimal n ++ numbered w x) (numbered (32 ∷ []) y),
      length-append (decimal n) (numbered w x),
      decimal_long n,
      numbered_long w x,
      numbered_long (32 ∷ []) y,
    )

pub line_long : (n : ℕ) (p : List ℕ) → length (payload_line n p) ≤ 71
line_long n p = go (read_of Unframed p)
  where
    go : (w : Walk) → length (line_of n w) ≤ 71
    go (at u fs) = with_long n ok_word (length fs) (ticks_of fs) (omega arith)
    go (refused reason place behind) = with_long n refused_word (number_of reason) place (omega arith)

-- ---- a last line

pub closing_long : (s : State) → length (closing_line s) ≤ 25
closing_long s = go (is_whole s.phase)
  where
    long : (w : List ℕ) → length w ≤ 4 → length (last_line w s.lines) ≤ 25
    long w h = omega (arith, length-append (numbered w s.lines) (10 ∷ []), numbered_long w s.lines)

    go : (t : Bool) → length (cond t (last_line end_word s.lines) (last_line cut_word s.lines)) ≤ 25
    go true = long end_word (omega arith)
    go false = long cut_word (omega arith)

-- with the word that the phase calls for
pub closing_word : (s : State) {w : List ℕ} → w ≡ cond (is_whole s.phase) end_word cut_word → last_line w s.lines ≡ closing_line s
closing_word s e = ap (λ (w : List ℕ). last_line w s.lines) e ∙ go (is_whole s.phase)
  where
    go : (t : Bool) → last_line (cond t end_word cut_word) s.lines ≡ cond t (last_line end_word s.lines) (last_line cut_word s.lines)
    go true = refl
    go false = refl

-- ---- the number of a line

pub following_last : (n : ℕ) → 18446744073709551615 ≤ n → n ≡ following n
unfolding following
following_last n h = simp (le-ltb n 18446744073709551615 h)

pub following_saturates : (n : ℕ) → n < 18446744073709551616 → min (n + 1) 18446744073709551615 ≡ following n
unfolding following
following_saturates n h = go (below_or n 18446744073709551615)
  where
    go : (n < 18446744073709551615) ⊎ (18446744073709551615 ≤ n) → min (n + 1) 18446744073709551615 ≡ cond (ltb n 18446744073709551615) (n + 1) n
    go (inl l) = simp (lt-ltb n 18446744073709551615 l) (omega arith)
    go (inr l) = simp (le-ltb n 18446744073709551615 l) (omega arith)
