-- What a loop keeps that fills a list from its first place on with the elements of another that is as long.
use mathlib.Core.Path.{◌≡◌, refl, ◌∙◌}
use mathlib.Core.List.{List, ◌++◌, append-nil}
use Prim.Native.Nat.{ℕ, suc, ◌+◌, ◌≤◌, ◌<◌}
use native.Mathlib.Numerals.{add-one}
use native.Mathlib.Omega.{arith}
use lib.ListN.{length, get_or, set, take, drop, length-set, drop_of_length-le}
use lib.Seq.{take-suc, take_all, drop-cons, set_at, append_snoc, length-take-le}

-- the first i places hold what is put there, the others what they held
pub record Filled (new old now : List ℕ) (i : ℕ) : Type 0 where
  pub holds : now ≡ take i new ++ drop i old
  pub same_length : length now ≡ length old

module _ (new old : List ℕ) where
  pub filled_start : Filled new old old 0
  filled_start = record { holds = refl; same_length = refl }

  module _ (now : List ℕ) (i : ℕ) (h : Filled new old now i) (size : length new ≡ length old) where
    pub filled_step : i < length new → {v : ℕ} → v ≡ get_or new i 0 → Filled new old (set now i v) (i + 1)
    filled_step l {v} e = record {
      holds =
          rw (h.holds, e, add-one i, drop-cons old i 0 (omega arith), take-suc new i 0 l, append_snoc)
          (set_at (take i new) (get_or old i 0) (drop (suc i) old) (get_or new i 0) i (length-take-le i new (omega arith)));
      same_length = length-set now i v ∙ h.same_length;
    }

    pub filled_end : length new ≤ i → now ≡ new
    filled_end l = rw (take_all i new l, drop_of_length-le old {i = i} (omega arith), append-nil) at h.holds
