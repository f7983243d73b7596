-- What every answer comes to in numbers: docs/FORMAT.md, "Refusals".
use Rattle.std.specs.Prelude.{cond, List, ◌++◌, ℕ, eqb, drop, Result, Ok, Err}
use Rattle.refusal.specs.Numbers.{number_of}
use Rattle.refusal.specs.declared.Reason.{Reason}
use Rattle.refusal.specs.declared.Refusal.{Refusal}

-- "A refusal returns its number and a place"; beside them the values that the function reports
pub record Report (A : Type 0) : Type 0 where
  pub number : ℕ
  pub place : ℕ
  pub value : A

-- an accepted call: number and place are 0
abbrev pub accepted : {A : Type 0} → A → Report A
accepted v = record { number = 0; place = 0; value = v }

-- a refused one reports nothing: `nil` is the value's zero
abbrev pub refused_with : {A : Type 0} → A → Refusal → Report A
refused_with nil r = record { number = number_of r.reason; place = r.place; value = nil }

-- the number, place and values of each case of an answer
abbrev pub report_of : {A : Type 0} → A → Result A Refusal → Report A
report_of nil (Ok v) = accepted v
report_of nil (Err r) = refused_with nil r

-- a refusal for this reason at this place
abbrev pub refusal : Reason → ℕ → Refusal
refusal r place = record { reason = r; place = place }

-- a lent buffer after a call that reports how many of its first places it fills: accepted, they hold what is written and the others what they
-- held; refused, "all lent memory" is unchanged
unfoldable pub filled : Report ℕ → List ℕ → List ℕ → List ℕ
filled r written lent = cond (eqb r.number 0) (written ++ drop r.value lent) lent
