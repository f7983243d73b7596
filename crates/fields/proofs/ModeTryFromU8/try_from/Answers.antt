-- A mode has the widths that stand at its place in the code's table.
use Rattle.std.proofs.Common.{◌≡◌, true, refl, sym, ◌∙◌, List, ℕ, zero, suc, ◌≤◌, arith}
use Rattle.fields.specs.Modes.{is_mode, widths, widths_of}
use Rattle.fields.specs.Widths.{IsWidths, HasWidths}
use Rattle.fields.proofs.Modes.{mode_ruled, no_mode}
use Rattle.fields.proofs.ModeTryFromU8.try_from.Goals as goal

data OneToThree (n : ℕ) : Type 0 where
  one : n ≡ 1 → OneToThree n
  two : n ≡ 2 → OneToThree n
  three : n ≡ 3 → OneToThree n

one_to_three : (n : ℕ) → 1 ≤ n → n ≤ 3 → OneToThree n
one_to_three zero l h = absurd (omega arith)
one_to_three (suc zero) l h = one refl
one_to_three (suc (suc zero)) l h = two refl
one_to_three (suc (suc (suc zero))) l h = three refl
one_to_three (suc (suc (suc (suc n)))) l h = absurd (omega arith)

widths_at : (k : ℕ) → is_mode k ≡ true → {number n : ℕ} {ws : List ℕ} → n ≡ number → n ≡ k → ws ≡ widths_of k → HasWidths number ws
widths_at k m e f g = record { known = rw (sym e ∙ f) m; same = rw (sym e ∙ f) g }

ruled_at : (k : ℕ) → is_mode k ≡ true → {ws : List ℕ} → ws ≡ widths_of k → IsWidths ws
ruled_at k m g = rw g (mode_ruled k m)

pub invariant_of-result : goal.invariant_of-result
unfolding is_mode widths_of widths
invariant_of-result c =
    elim (one_to_three c.from.result (omega arith) (omega arith)) [
      | one e ↦ rw e (record { ruled = ruled_at 1 refl refl })
      | two e ↦ rw e (record { ruled = ruled_at 2 refl refl })
      | three e ↦ rw e (record { ruled = ruled_at 3 refl refl })
    ]

pub returns-in-1-to-3 : goal.returns-in-1-to-3
unfolding is_mode widths_of widths
returns-in-1-to-3 c =
    elim (one_to_three c.from.result (omega arith) (omega arith)) [
      | one e ↦ rw e (widths_at 1 refl c.from.ensures e refl)
      | two e ↦ rw e (widths_at 2 refl c.from.ensures e refl)
      | three e ↦ rw e (widths_at 3 refl c.from.ensures e refl)
    ]

pub returns-in_default : goal.returns-in_default
unfolding widths
returns-in_default c = record { unknown = no_mode _ (omega arith); why = refl }
