-- What ranges the walk's answers keep to: refusals 1 to 8 but not 5, at places 1 to 1,400; at most 200 frames.
use mathlib.Core.Path.{◌≡◌, sym, ap, ◌∙◌, subst}
use mathlib.Core.Logic.{◌⊎◌, inl, inr}
use mathlib.Core.List.{List, [], ◌∷◌}
use Prim.Native.Nat.{ℕ, suc, ◌+◌, ◌*◌, ◌≤◌, ◌<◌}
use native.Mathlib.Omega.{arith}
use lib.ListN.{length}
use Rattle.std.specs.Prelude.{Err}
use Rattle.refusal.specs.declared.Reason.TheVariants.{FrameCut}
use Rattle.refusal.specs.declared.Reason.{Reason}
use Rattle.refusal.specs.Numbers.{number_of}
use Rattle.octets.specs.Octet.{Octets}
use Rattle.wire.specs.Frame.{Frame, rate, wire_octets, sum_of, rows_of, OfRate, Legal}
use Rattle.wire.specs.Walk.{ending, read_of, refused}
use Rattle.wire.specs.declared.Framing.{Framing, Framing}
use Rattle.wire.specs.declared.Row.{Row, Row}
use Rattle.octets.proofs.Order.{below_or}
use Rattle.wire.proofs.TableLaws.{bounds, coder_octets}
use Rattle.wire.proofs.Rates.{either}
use Rattle.wire.proofs.Endings.{ending_none}
use Rattle.wire.proofs.WholeFrame.{Numbered, Shows, ending_shows}
use Rattle.wire.proofs.Complete.{length_rows}
use Rattle.wire.proofs.Sound.{Kept, read_kept}

-- each frame but comfort noise, which is last, has seven octets or more
rows_octets : (r : ℕ) (xs : List Row) → OfRate r xs → 7 * length xs ≤ sum_of wire_octets xs + 5
rows_octets r [] o = omega arith
rows_octets r (x ∷ xs) o = go (rows_octets r xs o.2) (either r (rate x) xs o.1)
  where
    go : 7 * length xs ≤ sum_of wire_octets xs + 5 → ((rate x ≡ 0) × (xs ≡ [])) ⊎ ((rate x ≡ 0 → ⊥) × (rate x ≡ r)) → 7 * suc (length xs) ≤ wire_octets x + sum_of wire_octets xs + 5
    go ih (inl w) = let b = bounds x.kind in omega (arith, ap length w.1)
    go ih (inr w) = omega (arith, coder_octets x.kind w.0)

module _ (fr : Framing) where
  -- a refusal's number and place
  pub in_range : (p : List ℕ) (n : Reason) (place : ℕ) (behind : List Frame) → Octets p → read_of fr p ≡ refused n place behind → Numbered (number_of n) × (1 ≤ place) × (place ≤ 1400)
  in_range p n place behind o e = subst (Kept fr p) e (read_kept fr p o)

  -- the number of what unread octets are refused by for their end
  pub end_in_range : (p : List ℕ) (u : ℕ) (n : Reason) → Octets p → ending fr p u ≡ Err n → Numbered (number_of n)
  end_in_range p u n o e = go (below_or 0 u)
    where
      go : (0 < u) ⊎ (u ≤ 0) → Numbered (number_of n)
      go (inl h) = subst (Shows fr p u) e (ending_shows fr p u o h)
      go (inr h) =
          let q : Err FrameCut ≡ Err n = sym (ending_none fr p u (omega arith)) ∙ e in
          let z : FrameCut ≡ n = cc in let w : 2 ≡ number_of n = ap number_of z in (omega arith, omega arith, λ f. omega arith)

  -- "at most 200 frames"
  pub frames_most : (fs : List Frame) → Legal fr fs → length fs ≤ 200
  frames_most fs l = omega (arith, rows_octets l.rows.common (rows_of fs) l.rows.rated, l.rows.total, length_rows fs)
