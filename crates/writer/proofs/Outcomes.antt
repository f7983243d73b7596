-- Outcomes of checks: what each check let pass.
use mathlib.Core.Path.{◌≡◌, refl}
use mathlib.Core.Bool.{Bool, true, false}
use Prim.Native.Nat.{ℕ}
use Rattle.refusal.specs.declared.Reason.{Reason}
use Rattle.writer.specs.Rows.{Outcome, passed, refused, refuse_if, and_then}

-- what was refused was not passed
pub not_passed : {A B : Type 0} {reason : Reason} {place : ℕ} {x : A} → refused reason place ≡ passed x → B
not_passed e = absurd cc

pub refuse_passed : {A : Type 0} (test : Bool) (reason : Reason) (place : ℕ) (o : Outcome A) (x : A) → refuse_if test reason place o ≡ passed x → (test ≡ false) × (o ≡ passed x)
refuse_passed true reason place o x e = not_passed e
refuse_passed false reason place o x e = (refl, e)

pub then_passed : {A B : Type 0} (o : Outcome A) (rest : A → Outcome B) (y : B) → and_then o rest ≡ passed y → (x : A) × (o ≡ passed x) × (rest x ≡ passed y)
then_passed (passed x) rest y e = (x, refl, e)
then_passed (refused reason place) rest y e = not_passed e
