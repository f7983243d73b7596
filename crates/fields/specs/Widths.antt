-- Widths as the code holds them, a list for a mode; no public promise cites this file.
use Rattle.std.specs.Prelude.{◌≡◌, true, false, List, ℕ, ◌≤◌, ◌<◌, length, get_or, Option, Some, None}
use Rattle.refusal.specs.declared.Reason.{Reason}
use Rattle.refusal.specs.declared.Reason.TheVariants.{WrongMode}
use Rattle.fields.specs.Table.{first_large, consecutive}
use Rattle.fields.specs.Modes.{is_mode, widths_of}
use Rattle.fields.specs.RoundTrip.{total, Fitting}

-- what the code relies on: the fields are the 54 bits of a body, each of one to eight of them
pub record IsWidths (ws : List ℕ) : Type 0 where
  pub sum : total ws ≡ 54
  pub each : (i : ℕ) → i < length ws → (1 ≤ get_or ws i 0) × (get_or ws i 0 ≤ 8)

-- there is such a mode, and it has these widths
pub record HasWidths (mode : ℕ) (ws : List ℕ) : Type 0 where
  pub known : is_mode mode ≡ true
  pub same : ws ≡ widths_of mode

-- there is no such mode, for this reason
pub record IsNoMode (mode : ℕ) (reason : Reason) : Type 0 where
  pub unknown : is_mode mode ≡ false
  pub why : reason ≡ WrongMode

-- the index of the first field that is too large for its width, or none where all fit
abbrev pub FindsLarge : List ℕ → List ℕ → Option ℕ → Type 0
FindsLarge ws fields None = Fitting (consecutive 0 ws) fields
FindsLarge ws fields (Some i) = (i < length fields) × (i ≡ first_large (consecutive 0 ws) fields)
