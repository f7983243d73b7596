-- Laws of neighbouring bits.
use mathlib.Core.Path.{◌≡◌, refl, ap, ◌∙◌}
use mathlib.Core.List.{List, ◌++◌, map}
use Prim.Native.Nat.{ℕ, zero, suc, ◌+◌, ◌≤◌, ◌<◌}
use native.Mathlib.Nat.{add-zero, zero-add}
use native.Mathlib.Omega.{arith}
use lib.ListN.{length, get_or, take, drop}
use lib.Seq.{drop-cons}
use Rattle.fields.specs.Table.{run}

pub length_run : (at n : ℕ) → length (run at n) ≡ n
unfolding run
length_run at zero = refl
length_run at (suc n) = ap suc (length_run (suc at) n)

pub get_d_run : (at n i : ℕ) → i < n → get_or (run at n) i 0 ≡ at + i
unfolding run
get_d_run at zero i h = absurd (omega arith)
get_d_run at (suc n) zero h = omega arith
get_d_run at (suc n) (suc i) h = get_d_run (suc at) n i (omega arith) ∙ omega arith

pub run-append : (at n m : ℕ) → run at n ++ run (at + n) m ≡ run at (n + m)
unfolding run
run-append at zero m = rw (add-zero at, zero-add m)
run-append at (suc n) m =
    let e : at + suc n ≡ suc at + n = omega arith in
    let f : suc n + m ≡ suc (n + m) = omega arith in
    rw (e, f, run-append (suc at) n m)

-- those of a list are a part of it
pub map-run : (bs : List ℕ) (at n : ℕ) → at + n ≤ length bs → map (λ (p : ℕ). get_or bs p 0) (run at n) ≡ take n (drop at bs)
unfolding run
map-run bs at zero h = refl
map-run bs at (suc n) h = rw (drop-cons bs at 0 (omega arith), map-run bs (suc at) n (omega arith))
