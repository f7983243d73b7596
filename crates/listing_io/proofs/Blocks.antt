-- What the loop over a block keeps: from the octets that are left the run comes to where it comes from the start.
use Rattle.std.proofs.Common.{◌≡◌, List, [], ℕ, ◌<◌, ◌≤◌, ◌-◌, None, Result, Ok, Err, MatchResult, length, take, drop, length-drop, arith, ap, sym, ◌∙◌}
use Rattle.std.proofs.Math.Seq.{take_all}
use mathlib.Core.List.{append-nil}
use Rattle.std.specs.declared.io.Error.{Error}
use Rattle.refusal.specs.declared.Refusal.{Refusal}
use Rattle.listing.specs.Listing.{Stage, run, state_of, started}
use Rattle.listing.specs.Answers.{ListsPart}
use Rattle.listing.specs.declared.State.{State}
use Rattle.listing.specs.declared.Progress.{Progress}
use Rattle.listing.proofs.Answering.{part_taken, part_some}
use Rattle.listing.proofs.Joined.{part-run}

-- what is carried behind all of some octets
pub record Carried : Type 0 where
  pub state : State
  pub buffer : List ℕ

abbrev carried : Stage → Carried
carried t = record { state = state_of t; buffer = t.buffer }

-- what is carried behind all of them, from a state and a buffer on
abbrev pub carried_from : State → List ℕ → List ℕ → Carried
carried_from s b xs = carried (run None (started s b) xs)

-- the call came to x: so says `map_err`, which makes its refusal an error, where it answers x
abbrev pub Answers : {A : Type 0} → Result A Refusal → A → Type 0
Answers {A} r x = MatchResult r (λ y. ◌≡◌ {A = Result A Error} (Ok x) (Ok y)) (λ _. ⊥)

pub answered : {A : Type 0} (r : Result A Refusal) (x : A) → Answers r x → r ≡ Ok x
answered {A} (Ok y) x h = let z : ◌≡◌ {A = Result A Error} (Ok x) (Ok y) = h in let w : y ≡ x = cc in ap Ok w
answered (Err e) x h = absurd h

-- a call that is answered, over the octets that are left
module _ {s : State} {rest b o b' o' : List ℕ} {r : Result Progress Refusal} (g : ListsPart s rest b o r b' o') (p : Progress) (a : Answers r p) where
  part : ListsPart s rest b o (Ok p) b' o'
  part = rw (answered r p a) at g

  pub upto : p.taken ≤ length rest
  upto = part_taken part

  -- what is left behind it, from the index of the first octet that was not taken
  module _ {n : ℕ} (same : n ≡ p.taken) where
    left : take (length rest - n) (drop n rest) ≡ drop n rest
    left = take_all (length rest - n) (drop n rest) (omega (arith, length-drop n rest))

    pub smaller : 1 ≤ length rest → length (take (length rest - n) (drop n rest)) < length rest
    smaller h = omega (arith, ap length left, length-drop n rest, part_some part h)

    pub carries : carried_from s b rest ≡ carried_from p.state b' (take (length rest - n) (drop n rest))
    carries =
        ap (carried_from s b) (sym (append-nil rest))
        ∙ ap carried (part-run part [])
        ∙ ap (carried_from p.state b') (append-nil (drop p.taken rest) ∙ ap (λ (k : ℕ). drop k rest) (sym same) ∙ sym left)
