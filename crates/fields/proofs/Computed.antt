-- A rule that holds of each number below another, by one test that is computed over all of them.
use mathlib.Core.Path.{◌≡◌, sym, ap, ◌∙◌}
use mathlib.Core.Bool.{Bool, true}
use Prim.Native.Nat.{ℕ, ◌<◌}
use native.Mathlib.Nat.{zero-add}
use native.Mathlib.Omega.{arith}
use Rattle.std.specs.List.{list_all}
use Rattle.std.proofs.lemmas.List.Sums.{AllPass-from_list_all}
use Rattle.fields.specs.Table.{run}
use Rattle.fields.proofs.Runs.{length_run, get_d_run}

pub every_below : (test : ℕ → Bool) (n : ℕ) → list_all test (run 0 n) ≡ true → (i : ℕ) → i < n → test i ≡ true
every_below test n t i h =
    ap test (sym (get_d_run 0 n i h ∙ zero-add i)) ∙ AllPass-from_list_all test (run 0 n) t i 0 (omega (arith, length_run 0 n))
