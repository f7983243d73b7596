-- What `list` and `close` promise, from the definitions of Listing.
use Rattle.std.specs.Prelude.{◌≡◌, cond, List, [], ◌++◌, ℕ, ltb, length, take, drop, Some, Result, Ok, Err}
use Rattle.refusal.specs.Report.{Report, accepted, refused_with, report_of, refusal, filled}
use Rattle.refusal.specs.declared.Reason.TheVariants.{OctetsTooShort}
use Rattle.refusal.specs.declared.Refusal.{Refusal}
use Rattle.octets.specs.Put.{put}
use Rattle.listing.specs.Listing.{most_octets, line_room, Stage, run, state_of, started, closing_line}
use Rattle.listing.specs.declared.Phase.TheVariants.{BadLength}
use Rattle.listing.specs.declared.State.{State}
use Rattle.listing.specs.declared.Progress.{Progress}

-- ---- list

-- what a call comes to in the state s, with b in the payload's buffer and room for so many octets of output: refused, where there is too little
-- room for the payload, then for a line of the output; else octet by octet, as long as any line has room
unfoldable pub listing_part : State → List ℕ → List ℕ → ℕ → Result Stage Refusal
listing_part s input b room =
    cond (ltb (length b) most_octets) (Err (refusal OctetsTooShort most_octets))
    (cond (ltb room line_room) (Err (refusal OctetsTooShort line_room)) (Ok (run (Some room) (started s b) input)))

-- the stage behind a call; refused, the one before it
abbrev pub stage_behind : Stage → Result Stage Refusal → Stage
stage_behind before (Ok t) = t
stage_behind before (Err x) = before

-- a stage as it is answered: the state, the octets taken, and the octets written
abbrev pub progress_of : Stage → Progress
progress_of t = record { state = state_of t; taken = t.taken; written = length t.output }

-- the answer that says so
abbrev pub listed_of : Result Stage Refusal → Result Progress Refusal
listed_of (Ok t) = Ok (progress_of t)
listed_of (Err x) = Err x

-- refused, nothing is taken and nothing written
abbrev pub no_progress : State → Progress
no_progress s = record { state = s; taken = 0; written = 0 }

-- the numbers of a call in the state s
abbrev pub part_report : State → Result Stage Refusal → Report Progress
part_report s (Ok t) = accepted (progress_of t)
part_report s (Err x) = refused_with (no_progress s) x

-- what `list` promises: b' and out' are the payload's buffer and the output buffer afterwards
pub record ListsPart (s : State) (input b out : List ℕ) (r : Result Progress Refusal) (b' out' : List ℕ) : Type 0 where
  pub answer : r ≡ listed_of (listing_part s input b (length out))
  pub numbers : report_of (no_progress s) r ≡ part_report s (listing_part s input b (length out))
  pub output : out' ≡ put out 0 (stage_behind (started s b) (listing_part s input b (length out))).output
  pub payload : b' ≡ (stage_behind (started s b) (listing_part s input b (length out))).buffer

-- ---- close

-- the last line's octets, or 10 with the octets that it needs
unfoldable pub closing : State → ℕ → Result ℕ Refusal
closing s room = cond (ltb room (length (closing_line s))) (Err (refusal OctetsTooShort (length (closing_line s)))) (Ok (length (closing_line s)))

-- what `close` promises
pub record Closes (s : State) (out : List ℕ) (r : Result ℕ Refusal) (out' : List ℕ) : Type 0 where
  pub answer : r ≡ closing s (length out)
  pub numbers : report_of 0 r ≡ report_of 0 (closing s (length out))
  pub output : out' ≡ filled (report_of 0 (closing s (length out))) (closing_line s) out

-- ---- calls one after another

-- from the state s on, with b in the payload's buffer, calls over the input xs give the output out
pub data Calls : State → List ℕ → List ℕ → List ℕ → Type 0 where
  -- the last line, behind all of the input
  last : {s : State} {b xs out : List ℕ} → xs ≡ [] → out ≡ closing_line s → Calls s b xs out
  -- the last line, behind a bad length: the rest of the input need not be read
  stop : {s : State} {b xs out : List ℕ} → s.phase ≡ BadLength → out ≡ closing_line s → Calls s b xs out
  -- a call that is given a part of the input, and calls over what it did not take
  call : {s : State} {b xs out : List ℕ} (part rest o b' o' : List ℕ) (p : Progress) (more : List ℕ) → xs ≡ part ++ rest
      → ListsPart s part b o (Ok p) b' o' → Calls p.state b' (drop p.taken part ++ rest) more
      → out ≡ take p.written o' ++ more → Calls s b xs out
