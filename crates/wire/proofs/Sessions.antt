-- What a session's framing is, from what is known of it.
use mathlib.Core.Path.{◌≡◌, refl, sym, ap, ◌∙◌}
use Prim.Native.Nat.{ℕ}
use native.Mathlib.Omega.{arith}
use Rattle.std.specs.Prelude.{Option, Some, None, Result, Ok, Err, ok_or, Result, Ok, Err, Option, Some, None, ok_or}
use Rattle.refusal.specs.declared.Refusal.{Refusal, Refusal}
use Rattle.wire.specs.Frame.{framing_of}
use Rattle.wire.specs.declared.Session.{Session, Session}
use Rattle.wire.specs.declared.Framing.{Framing, Framing}

-- k is what is answered where the session has no framing or has one
module _ (ses : Session) (x : Refusal) {k : Result Framing Refusal} (is : k ≡ ok_or (framing_of ses) x) where
  pub unknown_framing : (y : Refusal) → k ≡ Err y → (framing_of ses ≡ None) × (y ≡ x)
  unknown_framing y e = go (framing_of ses) (sym e ∙ is)
    where
      go : (o : Option Framing) → Err y ≡ ok_or o x → (o ≡ None) × (y ≡ x)
      go None q = (refl, cc)
      go (Some fr) q = absurd (let z : ◌≡◌ {A = ℕ} 0 1 = cc in omega arith)

  pub known_framing_lem : (fr : Framing) → k ≡ Ok fr → framing_of ses ≡ Some fr
  known_framing_lem fr e = go (framing_of ses) (sym e ∙ is)
    where
      go : (o : Option Framing) → Ok fr ≡ ok_or o x → o ≡ Some fr
      go None q = absurd (let z : ◌≡◌ {A = ℕ} 0 1 = cc in omega arith)
      go (Some gr) q = let same : gr ≡ fr = cc in ap Some same

module _ (ses : Session) {fr : Framing} where
  pub no_framing : framing_of ses ≡ None → framing_of ses ≡ Some fr → ⊥
  no_framing q h = let d : None ≡ Some fr = sym q ∙ h in let z : ◌≡◌ {A = ℕ} 0 1 = cc in omega arith

  pub one_framing : {gr : Framing} → framing_of ses ≡ Some fr → framing_of ses ≡ Some gr → gr ≡ fr
  one_framing {gr} q h = let d : Some gr ≡ Some fr = sym h ∙ q in cc
