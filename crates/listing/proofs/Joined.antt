-- Any cutting of an input into parts joins to its listing.
use mathlib.Core.Path.{◌≡◌, refl, sym, ap, ◌∙◌}
use mathlib.Core.Bool.{Bool, true, false, cond}
use mathlib.Core.List.{List, [], ◌∷◌, ◌++◌, append_assoc, append-nil}
use Rattle.std.specs.Prelude.{Option, Some, None, Ok}
use Prim.Native.Nat.{ℕ, zero, suc, ◌+◌, ◌-◌}
use native.Mathlib.Omega.{arith}
use lib.ListN.{length, take, drop, set}
use lib.Seq.{drop-nil}
use Rattle.octets.specs.Octet.{Octets}
use Rattle.leb128.specs.Number.{step_of}
use Rattle.leb128.specs.declared.Group.{Group}
use Rattle.leb128.specs.declared.Group.TheVariants.{More, Last}
use Rattle.listing.specs.Line.{payload_line}
use Rattle.listing.specs.Listing.{following, Stage, moved, within, grouped, is_in_payload, next_in, next, has_room, run, closing_line, state_of, started, fresh, closed, listing}
use Rattle.listing.specs.Answers.{ListsPart, Calls, last, stop, call}
use Rattle.listing.specs.declared.Phase.{Phase}
use Rattle.listing.specs.declared.Phase.TheVariants.{Length, Payload, BadLength}
use Rattle.listing.specs.declared.State.{State}
use Rattle.listing.specs.declared.Progress.{Progress}
use Rattle.listing.proofs.Stages.{next_taken, run_taken, run_bad}
use Rattle.listing.proofs.Answering.{part-accepted, part_written}
use Rattle.listing.proofs.LineByLine.{any_buffer}

-- ---- parts one after another

-- a run with room for so many octets, and then one over what it did not take
run_limited : (r : ℕ) (t : Stage) (xs rest : List ℕ)
    → run None t (xs ++ rest) ≡ run None (run (Some r) t xs) (drop ((run (Some r) t xs).taken - t.taken) xs ++ rest)
run_limited r t [] rest = ap (λ (ys : List ℕ). run None t (ys ++ rest)) (sym (drop-nil (t.taken - t.taken)))
run_limited r t (x ∷ xs) rest = go (has_room (Some r) t) (run_limited r (next t x) xs rest)
  where
    go : (b : Bool) → run None (next t x) (xs ++ rest) ≡ run None (run (Some r) (next t x) xs) (drop ((run (Some r) (next t x) xs).taken - (next t x).taken) xs ++ rest)
        → run None (next t x) (xs ++ rest)
        ≡ run None (cond b (run (Some r) (next t x) xs) t) (drop ((cond b (run (Some r) (next t x) xs) t).taken - t.taken) (x ∷ xs) ++ rest)
    go true h =
        let u = run (Some r) (next t x) xs in
        let e : suc (u.taken - (next t x).taken) ≡ u.taken - t.taken = omega (arith, next_taken t x, run_taken r (next t x) xs) in
        h ∙ ap (λ (k : ℕ). run None u (drop k (x ∷ xs) ++ rest)) e
    go false h =
        let e : 0 ≡ t.taken - t.taken = omega arith in
        ap (λ (k : ℕ). run None t (drop k (x ∷ xs) ++ rest)) e

-- ---- what is written before changes nothing

-- the stage t behind n octets, with the output o before its own
abbrev pub behind : ℕ → List ℕ → Stage → Stage
behind n o t = record { taken = n; output = o ++ t.output; lines = t.lines; phase = t.phase; buffer = t.buffer }

within-behind : (n : ℕ) (o : List ℕ) (t : Stage) (i left have : ℕ) (b : List ℕ) → within (behind n o t) i left have b ≡ behind i o (within t i left have b)
within-behind n o t i zero have b =
    ap (λ (out : List ℕ). record { taken = i; output = out; lines = following t.lines; phase = Length 0 0; buffer = b })
    (append_assoc o t.output (payload_line (following t.lines) (take have b)))
within-behind n o t i (suc left) have b = refl

next-behind : (n : ℕ) (o : List ℕ) (t : Stage) (x : ℕ) → next (behind n o t) x ≡ behind (n + 1) o (next t x)
next-behind n o t x = go t.phase
  where
    moved_to : (left have : ℕ) (b : List ℕ) → within (behind n o t) (n + 1) left have b ≡ behind (n + 1) o (within t (t.taken + 1) left have b)
    moved_to zero have b = within-behind n o t (n + 1) zero have b
    moved_to (suc left) have b = refl

    group : (k : ℕ) (g : Option Group) → grouped (behind n o t) k g ≡ behind (n + 1) o (grouped t k g)
    group k (Some (More v)) = refl
    group k (Some (Last m)) = moved_to m 0 t.buffer
    group k None = refl

    held : (i : Bool) (left have : ℕ) (b : List ℕ)
        → cond i (within (behind n o t) (n + 1) left have b) (moved (behind n o t) (n + 1) BadLength t.buffer)
        ≡ behind (n + 1) o (cond i (within t (t.taken + 1) left have b) (moved t (t.taken + 1) BadLength t.buffer))
    held true left have b = moved_to left have b
    held false left have b = refl

    go : (f : Phase) → next_in f (behind n o t) x ≡ behind (n + 1) o (next_in f t x)
    go (Length v k) = group k (step_of 2 1400 v k x)
    go (Payload left have) = held (is_in_payload left have) (left - 1) (have + 1) (set t.buffer have x)
    go BadLength = refl

run-behind : (n : ℕ) (o : List ℕ) (t : Stage) (xs : List ℕ) → run None (behind n o t) xs ≡ behind (n + length xs) o (run None t xs)
run-behind n o t [] = let e : n ≡ n + 0 = omega arith in ap (λ (i : ℕ). behind i o t) e
run-behind n o t (x ∷ xs) =
    let e : n + 1 + length xs ≡ n + suc (length xs) = omega arith in
    ap (λ (u : Stage). run None u xs) (next-behind n o t x) ∙ run-behind (n + 1) o (next t x) xs ∙ ap (λ (i : ℕ). behind i o (run None (next t x) xs)) e

-- a run from a stage on is one from its state on
run_from : (t : Stage) (xs : List ℕ) → run None t xs ≡ behind (t.taken + length xs) t.output (run None (started (state_of t) t.buffer) xs)
run_from t xs =
    ap (λ (out : List ℕ). run None (record { taken = t.taken; output = out; lines = t.lines; phase = t.phase; buffer = t.buffer }) xs) (sym (append-nil t.output))
    ∙ run-behind t.taken t.output (started (state_of t) t.buffer) xs

-- ---- calls

-- a call's lines, and then a run from its state on, over the octets that it left
pub part-run : {s : State} {part b o : List ℕ} {p : Progress} {b' o' : List ℕ} → ListsPart s part b o (Ok p) b' o' → (rest : List ℕ)
    → run None (started s b) (part ++ rest)
    ≡ behind (p.taken + length (drop p.taken part ++ rest)) (take p.written o') (run None (started p.state b') (drop p.taken part ++ rest))
part-run {s} {part} {b} {o} {p} {b'} {o'} g rest =
    let c = (part-accepted g).answered in
    let t = run (Some (length o)) (started s b) part in
    let e : t.taken - 0 ≡ t.taken = omega arith in
    run_limited (length o) (started s b) part rest
    ∙ ap (λ (k : ℕ). run None t (drop k part ++ rest)) e
    ∙ run_from t (drop t.taken part ++ rest)
    ∙ ap (λ (q : Progress). behind (q.taken + length (drop q.taken part ++ rest)) t.output (run None (started q.state t.buffer) (drop q.taken part ++ rest))) (sym c.progress)
    ∙ ap (λ (d : List ℕ). behind (p.taken + length (drop p.taken part ++ rest)) t.output (run None (started p.state d) (drop p.taken part ++ rest))) (sym c.buffer)
    ∙ ap (λ (l : List ℕ). behind (p.taken + length (drop p.taken part ++ rest)) l (run None (started p.state b') (drop p.taken part ++ rest))) (sym (part_written g))

-- the listing from a state on
from : State → List ℕ → List ℕ → List ℕ
from s b xs = closed (run None (started s b) xs)

call_from : (s : State) (part rest b o b' o' : List ℕ) (p : Progress) → ListsPart s part b o (Ok p) b' o'
    → from s b (part ++ rest) ≡ take p.written o' ++ from p.state b' (drop p.taken part ++ rest)
unfolding from
call_from s part rest b o b' o' p g =
    let t = run None (started p.state b') (drop p.taken part ++ rest) in
    ap closed (part-run g rest) ∙ append_assoc (take p.written o') t.output (closing_line (state_of t))

-- behind a bad length the rest of the input does not matter
stop_from : (s : State) (b xs : List ℕ) → s.phase ≡ BadLength → closing_line s ≡ from s b xs
unfolding from
stop_from s b xs f =
    ap (λ (g : Phase). closing_line (record { lines = s.lines; phase = g })) f ∙ ap closed (sym (run_bad None (started s b) xs refl f))

calls_from : (s : State) (b xs out : List ℕ) → Calls s b xs out → out ≡ from s b xs
unfolding from
calls_from s b xs out (last e q) = q ∙ ap (from s b) (sym e)
calls_from s b xs out (stop f q) = q ∙ stop_from s b xs f
calls_from s b xs out (call part rest o b' o' p more e g d q) =
    q
    ∙ ap (λ (l : List ℕ). take p.written o' ++ l) (calls_from p.state b' (drop p.taken part ++ rest) more d)
    ∙ sym (call_from s part rest b o b' o' p g)
    ∙ ap (from s b) (sym e)

-- ---- the theorem

-- whatever parts the calls were given, and whatever they took of them
pub joined : (b xs out : List ℕ) → Octets xs → Calls fresh b xs out → out ≡ listing xs
unfolding from listing
joined b xs out o c = go c
  where
    go : Calls fresh b xs out → out ≡ listing xs
    go (last e q) = q ∙ ap listing (sym e)
    go (stop f q) = absurd (let z : ◌≡◌ {A = ℕ} 0 1 = cc in omega arith)
    go (call part rest p' b' o' p more e g d q) = calls_from fresh b xs out c ∙ any_buffer b xs o (part-accepted g).large
