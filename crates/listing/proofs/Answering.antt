-- What `list` and `close` promise holds of what they answer, in each case.
use mathlib.Core.Path.{◌≡◌, refl, sym, ap, ◌∙◌}
use mathlib.Core.Logic.{◌⊎◌, inl, inr}
use mathlib.Core.List.{List, ◌++◌}
use Prim.Native.Nat.{ℕ, ◌+◌, ◌≤◌, ◌<◌}
use native.Mathlib.Omega.{arith}
use lib.ListN.{length, take, drop, length-append}
use lib.Seq.{take_at}
use borrow.Author.Tests.{lt-ltb, le-ltb, le-leb}
use Rattle.std.specs.Prelude.{Some, Result, Ok, Err}
use Rattle.refusal.specs.declared.Reason.TheVariants.{OctetsTooShort}
use Rattle.refusal.specs.declared.Refusal.{Refusal}
use Rattle.refusal.specs.Report.{report_of, refusal, filled}
use Rattle.octets.specs.Put.{put}
use Rattle.octets.proofs.Put.{take_put}
use Rattle.octets.proofs.Order.{below_or}
use Rattle.listing.specs.Listing.{Stage, run, started, closing_line}
use Rattle.listing.specs.Answers.{listing_part, stage_behind, progress_of, listed_of, no_progress, part_report, ListsPart, closing, Closes}
use Rattle.listing.specs.Steps.{Stored, Answered}
use Rattle.listing.specs.declared.State.{State}
use Rattle.listing.specs.declared.Progress.{Progress}
use Rattle.listing.proofs.Lines.{closing_long}
use Rattle.listing.proofs.Stages.{run_taken_some, run_upto}

-- ---- list

-- an answer's numbers are those of what it says
reported : (s : State) (x : Result Stage Refusal) → report_of (no_progress s) (listed_of x) ≡ part_report s x
reported s (Ok t) = refl
reported s (Err x) = refl

module _ (s : State) (input b out : List ℕ) where
  -- from what the call comes to
  lists : (x : Result Stage Refusal) {r : Result Progress Refusal} {b' out' : List ℕ} → listing_part s input b (length out) ≡ x → r ≡ listed_of x
      → out' ≡ put out 0 (stage_behind (started s b) x).output → b' ≡ (stage_behind (started s b) x).buffer → ListsPart s input b out r b' out'
  lists x e ea eo eb = record {
    answer = ea ∙ ap listed_of (sym e);
    numbers = ap (report_of (no_progress s)) ea ∙ reported s x ∙ ap (part_report s) (sym e);
    output = eo ∙ ap (λ (y : Result Stage Refusal). put out 0 (stage_behind (started s b) y).output) (sym e);
    payload = eb ∙ ap (λ (y : Result Stage Refusal). (stage_behind (started s b) y).buffer) (sym e);
  }

  pub list_buffer : length b < 1400 → ListsPart s input b out (Err (refusal OctetsTooShort 1400)) b out
  unfolding listing_part
  list_buffer h = lists (Err (refusal OctetsTooShort 1400)) (simp (lt-ltb (length b) 1400 h)) refl refl refl

  pub list_room : 1400 ≤ length b → length out < 71 → ListsPart s input b out (Err (refusal OctetsTooShort 71)) b out
  unfolding listing_part
  list_room l h = lists (Err (refusal OctetsTooShort 71)) (simp (le-ltb (length b) 1400 l, lt-ltb (length out) 71 h)) refl refl refl

  pub list_part : 1400 ≤ length b → 71 ≤ length out → {r : Progress} {b' out' : List ℕ} → Answered (run (Some (length out)) (started s b) input) out r b' out'
      → ListsPart s input b out (Ok r) b' out'
  unfolding listing_part
  list_part l h a =
      lists (Ok (run (Some (length out)) (started s b) input)) (simp (le-ltb (length b) 1400 l, le-ltb (length out) 71 h)) (ap Ok a.progress) a.output a.buffer

-- what a call that is not refused says
pub record Accepted (s : State) (input b out : List ℕ) (p : Progress) (b' out' : List ℕ) : Type 0 where
  pub large : 1400 ≤ length b
  pub room : 71 ≤ length out
  pub answered : Answered (run (Some (length out)) (started s b) input) out p b' out'

module _ {s : State} {input b out : List ℕ} {p : Progress} {b' out' : List ℕ} (g : ListsPart s input b out (Ok p) b' out') where
  pub part-accepted : Accepted s input b out p b' out'
  unfolding listing_part
  part-accepted = go (below_or (length b) 1400) (below_or (length out) 71)
    where
      refused : (x : Refusal) → listing_part s input b (length out) ≡ Err x → ⊥
      refused x e = let z : Ok p ≡ Err x = g.answer ∙ ap listed_of e in cc

      go : (length b < 1400) ⊎ (1400 ≤ length b) → (length out < 71) ⊎ (71 ≤ length out) → Accepted s input b out p b' out'
      go (inl h) l = absurd (refused (refusal OctetsTooShort 1400) (simp (lt-ltb (length b) 1400 h)))
      go (inr h) (inl l) = absurd (refused (refusal OctetsTooShort 71) (simp (le-ltb (length b) 1400 h, lt-ltb (length out) 71 l)))
      go (inr h) (inr l) =
          let t = run (Some (length out)) (started s b) input in
          let e : listing_part s input b (length out) ≡ Ok t = simp (le-ltb (length b) 1400 h, le-ltb (length out) 71 l) in
          let a : Ok p ≡ Ok (progress_of t) = g.answer ∙ ap listed_of e in
          record {
            large = h;
            room = l;
            answered = record {
              progress = (let z : p ≡ progress_of t = cc in z);
              buffer = g.payload ∙ ap (λ (y : Result Stage Refusal). (stage_behind (started s b) y).buffer) e;
              output = g.output ∙ ap (λ (y : Result Stage Refusal). put out 0 (stage_behind (started s b) y).output) e;
            };
          }

  -- the lines that it wrote stand at the front of the output buffer
  pub part_written : take p.written out' ≡ (run (Some (length out)) (started s b) input).output
  part_written =
      let c = part-accepted.answered in
      let t = run (Some (length out)) (started s b) input in
      rw c.output (take_at t.output (drop (0 + length t.output) out) p.written (sym (ap (λ (q : Progress). q.written) c.progress)))

  -- no more octets are taken than there are
  pub part_taken : p.taken ≤ length input
  part_taken = omega (arith, ap (λ (q : Progress). q.taken) part-accepted.answered.progress, run_upto (Some (length out)) (started s b) input)

  -- and some, where there are
  pub part_some : 1 ≤ length input → 1 ≤ p.taken
  part_some h =
      let c = part-accepted in
      omega (arith, ap (λ (q : Progress). q.taken) c.answered.progress, run_taken_some (length out) (started s b) input h (le-leb 71 (length out) c.room))

  -- nor written than there is room for, a lent buffer keeping its length
  pub part_fits : length out' ≡ length out → p.written ≤ length out
  part_fits e =
      let c = part-accepted.answered in
      let t = run (Some (length out)) (started s b) input in
      let l : length out' ≡ length t.output + length (drop (0 + length t.output) out) =
      ap length c.output ∙ length-append t.output (drop (0 + length t.output) out) in
      omega (arith, ap (λ (q : Progress). q.written) c.progress)

-- ---- close

module _ (s : State) (out : List ℕ) where
  closing_short : length out < length (closing_line s) → closing s (length out) ≡ Err (refusal OctetsTooShort (length (closing_line s)))
  unfolding closing
  closing_short h = simp (lt-ltb (length out) (length (closing_line s)) h)

  closing_fits : length (closing_line s) ≤ length out → closing s (length out) ≡ Ok (length (closing_line s))
  unfolding closing
  closing_fits h = simp (le-ltb (length out) (length (closing_line s)) h)

  -- from what the call comes to
  closes : {x r : Result ℕ Refusal} {out' : List ℕ} → closing s (length out) ≡ x → r ≡ x → out' ≡ filled (report_of 0 x) (closing_line s) out
      → Closes s out r out'
  closes e ea eo = record {
    answer = ea ∙ sym e;
    numbers = ap (report_of 0) (ea ∙ sym e);
    output = eo ∙ ap (λ (y : Result ℕ Refusal). filled (report_of 0 y) (closing_line s) out) (sym e);
  }

  -- the line stands in a buffer of its own
  module _ {o e : List ℕ} {n : ℕ} (room : 25 ≤ length o) (l : Stored o 0 (closing_line s) e n) where
    octets : n ≡ length (closing_line s)
    octets = l.end ∙ (let z : 0 + length (closing_line s) ≡ length (closing_line s) = omega arith in z)

    line : take n e ≡ closing_line s
    line = rw (l.octets, l.end) (take_put o 0 (closing_line s) (omega (arith, closing_long s)))

    pub close_short : length out < n → Closes s out (Err (refusal OctetsTooShort n)) out
    unfolding filled
    close_short h = closes (closing_short (omega (arith, octets))) (ap (λ (i : ℕ). Err (refusal OctetsTooShort i)) octets) refl

    pub close_line : n ≤ length out → Closes s out (Ok n) (take n e ++ drop n out)
    unfolding filled
    close_line h = closes (closing_fits (omega (arith, octets))) (ap Ok octets) (rw line (ap (λ (i : ℕ). closing_line s ++ drop i out) octets))

-- a line that is written has room
pub close_fits : {s : State} {out : List ℕ} {r : Result ℕ Refusal} {out' : List ℕ} {n : ℕ} → Closes s out r out' → r ≡ Ok n → n ≤ length out
close_fits {s} {out} {n = n} g e = go (below_or (length out) (length (closing_line s)))
  where
    go : (length out < length (closing_line s)) ⊎ (length (closing_line s) ≤ length out) → n ≤ length out
    go (inl h) = let z : Ok n ≡ Err (refusal OctetsTooShort (length (closing_line s))) = sym e ∙ g.answer ∙ closing_short s out h in absurd cc
    go (inr h) = let z : Ok n ≡ Ok (length (closing_line s)) = sym e ∙ g.answer ∙ closing_fits s out h in let w : n ≡ length (closing_line s) = cc in omega arith
