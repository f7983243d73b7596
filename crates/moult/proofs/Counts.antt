-- The host's count, as the code computes it and as it is promised.
use mathlib.Core.Path.{◌≡◌, refl, sym, ap, ◌∙◌}
use mathlib.Core.Logic.{inr}
use mathlib.Core.List.{List, [], ◌∷◌}
use Prim.Native.Nat.{ℕ, zero, suc, ◌≤◌, ◌<◌}
use native.Mathlib.Omega.{arith}
use lib.ListN.{length}
use lib.IntN.{ℤ, pos, neg_ℤ, ◌-ℤ◌, +ℤ_idl}
use mir.Syntax.{w32}
use mir.Val.{SFits, to_z, of_z}
use mir.Facts.{to_z_pos, to_z-of_z}
use Rattle.refusal.specs.declared.Refusal.{Refusal}
use Rattle.refusal.proofs.NumberLaws.{number_of-most}
use Rattle.std.specs.Prelude.{Result, Ok, Err}
use Rattle.refusal.specs.Numbers.{number_of}
use Rattle.octets.specs.Octet.{Octets}
use Rattle.wire.specs.Frame.{Frame, agreed_rate, Legal, octets_of}
use Rattle.wire.specs.Walk.{Walk, read_of}
use Rattle.wire.specs.Answers.{walked_of}
use Rattle.wire.specs.declared.Framing.{Framing}
use Rattle.wire.specs.declared.Framing.TheVariants.{Unframed}
use Rattle.wire.specs.declared.Summary.{Summary}
use Rattle.wire.proofs.Ranges.{frames_most}
use Rattle.wire.proofs.Meaning.{Meaning, accepted, denied, meaning, reads_it, went, stopped}
use Rattle.moult.specs.Promises.{host_count, Counted}

pub empty_legal : (fr : Framing) → Legal fr []
empty_legal fr = record { rows = record { common = agreed_rate fr; agreed = inr refl; rated = tt; total = omega arith }; bodies = tt }

no_frames : (fs : List Frame) → length fs ≡ 0 → fs ≡ []
no_frames [] e = refl
no_frames (f ∷ fs) e = absurd (omega arith)

-- minus a refusal number is not 0
minus_some : (n : ℕ) → 1 ≤ n → neg_ℤ (pos n) ≡ pos 0 → ⊥
minus_some zero h e = omega arith
minus_some (suc n) h e = let z : ◌≡◌ {A = ℕ} 0 1 = cc in omega arith

pub counted : (p : List ℕ) (r : ℤ) → Octets p → r ≡ host_count (read_of Unframed p) → Counted p r
unfolding host_count
counted p r o e = go (read_of Unframed p) refl (meaning Unframed p o)
  where
    frames : (fs : List Frame) → Legal Unframed fs → octets_of Unframed fs ≡ p → (r ≡ pos (length fs)) × (length fs ≤ 200)
    frames fs l g = (e ∙ ap host_count (reads_it Unframed p fs l g), frames_most Unframed fs l)

    go : (w : Walk) → read_of Unframed p ≡ w → Meaning Unframed p w → Counted p r
    go _ q (accepted a) =
        record {
          answer = e;
          empty = λ z. (frames [] (empty_legal Unframed) (sym z)).0;
          only_empty = λ z.
              let c : pos (length a.fs) ≡ pos 0 = sym (frames a.fs a.legal a.gives).0 ∙ z in
              let n : length a.fs ≡ 0 = cc in
              sym a.gives ∙ ap (octets_of Unframed) (no_frames a.fs n);
          frames = frames;
          negative = λ none. absurd (none a.fs a.legal a.gives);
        }
    go _ q (denied x d) =
        let m : r ≡ neg_ℤ (pos (number_of x.reason)) = e ∙ ap host_count q in
        record {
          answer = e;
          empty = λ z. (frames [] (empty_legal Unframed) (sym z)).0;
          only_empty = λ z. absurd (minus_some (number_of x.reason) d.range.0.0 (sym m ∙ z));
          frames = frames;
          negative = λ none. (number_of x.reason, d.range.0.0, d.range.0.1, m);
        }

-- ---- as the code computes it

minus_fits : (n : ℕ) → n < 256 → SFits w32 (neg_ℤ (pos n))
minus_fits zero h = record { sfits = omega arith }
minus_fits (suc n) h = record { sfits = omega arith }

minus_is : (n : ℕ) → n < 256 → pos 0 -ℤ to_z w32 n ≡ neg_ℤ (pos n)
minus_is n h = ap (λ (z : ℤ). pos 0 -ℤ z) (to_z_pos w32 {n = n} (omega arith)) ∙ +ℤ_idl (neg_ℤ (pos n))

pub sub_fits : (n : ℕ) → n < 256 → SFits w32 (pos 0 -ℤ to_z w32 n)
sub_fits n h = rw (minus_is n h) (minus_fits n h)

module _ (p : List ℕ) (o : Octets p) {s : Result Summary Refusal} (is : s ≡ walked_of (read_of Unframed p)) where
  pub few : (x : Summary) → s ≡ Ok x → x.frames ≤ 200
  few x e = let w = went Unframed p o is x e in omega (arith, ap (λ (y : Summary). y.frames) w.1, frames_most Unframed w.0.fs w.0.legal)

  pub count_whole : (x : Summary) → s ≡ Ok x → Counted p (to_z w32 x.frames)
  unfolding host_count
  count_whole x e =
      let w = went Unframed p o is x e in
      counted p (to_z w32 x.frames) o
      (to_z_pos w32 {n = x.frames} (omega (arith, few x e)) ∙ ap pos (ap (λ (y : Summary). y.frames) w.1) ∙ ap host_count (sym w.0.reads))

  pub count_refused : (x : Refusal) → s ≡ Err x → Counted p (to_z w32 (of_z w32 (pos 0 -ℤ to_z w32 (number_of x.reason))))
  unfolding host_count
  count_refused x e =
      let d = stopped Unframed p o is x e in
      let h : number_of x.reason < 256 = omega (arith, number_of-most x.reason) in
      counted p (to_z w32 (of_z w32 (pos 0 -ℤ to_z w32 (number_of x.reason)))) o (to_z-of_z (sub_fits (number_of x.reason) h) ∙ minus_is (number_of x.reason) h ∙ ap host_count (sym d.reads))
