-- Of two numbers the one is below the other or not, for callers: std's `cases_lt`.
use mathlib.Core.Logic.{◌⊎◌}
use Prim.Native.Nat.{ℕ, ◌≤◌, ◌<◌}
use Rattle.std.proofs.lemmas.Bool.{cases_lt}

pub below_or : (a b : ℕ) → (a < b) ⊎ (b ≤ a)
below_or = cases_lt
