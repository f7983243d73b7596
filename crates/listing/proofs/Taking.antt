-- What the methods of a call promise, each from what it calls, and what the loop over them keeps.
use Rattle.std.proofs.Common.{MutBor, ◌≡◌, refl, sym, ap, ◌∙◌, true, false, List, ◌∷◌, ◌++◌, ℕ, ◌+◌, ◌-◌, ◌≤◌, ◌<◌, min, Some, length, get_or, take, drop, length-drop, take-append-drop, drop-cons, add-one, arith}
use Rattle.std.proofs.Math.ListN.{drop_of_length-le}
use Rattle.std.proofs.Math.Seq.{length-take-le, drop-drop}
use borrow.Author.Tests.{le-leb, lt-leb}
use Rattle.octets.specs.Put.{put}
use Rattle.octets.proofs.Put.{take_put, drop-put, length-put}
use Rattle.listing.specs.Line.{payload_line}
use Rattle.listing.specs.Listing.{following, Stage, moved, within, is_in_payload, has_room, run, started}
use Rattle.listing.specs.Steps.{Stored, stage_of, Ready, SameBuffers, Reaches, Advances, Answered}
use Rattle.listing.specs.declared.Phase.TheVariants.{Length, Payload, BadLength}
use Rattle.listing.specs.declared.State.{State}
use Rattle.listing.specs.declared.Call.{Call}
use Rattle.listing.proofs.Lines.{line_long}
use Rattle.listing.proofs.Stages.{run_full, within-whole, within_taken, within-moved, run_octets, run_bad, run_unmade}

-- ---- a payload is whole, and its line is written

module _ (c : Call) (b : List ℕ) (have : ℕ) {m : ℕ} {e : List ℕ} {w : ℕ} (room : c.written + 71 ≤ length c.out.now) (lines : m ≡ following c.state.lines)
    (s : Stored c.out.now c.written (payload_line m (take have b)) e w) where
  fits : c.written + length (payload_line m (take have b)) ≤ length c.out.now
  fits = omega (arith, line_long m (take have b))

  front : take w e ≡ take c.written c.out.now ++ payload_line m (take have b)
  front = rw (s.octets, s.end) (take_put c.out.now c.written (payload_line m (take have b)) fits)

  pub reach_whole : (left : ℕ) {o : MutBor (List ℕ)} → left ≤ 0 → o.now ≡ e → o.ghost_name ≡ c.out.ghost_name
      → Reaches c (within (stage_of c b) c.taken left have b)
      (record { state = record { lines = m; phase = Length 0 0 }; taken = c.taken; written = w; input = c.input; out = o }) b
  reach_whole left {o} l eo en = rw (← (within-whole (stage_of c b) c.taken left have b l))
      (record {
        stage =
            ap (λ (out : List ℕ). record { taken = c.taken; output = take w out; lines = m; phase = Length 0 0; buffer = b }) eo
            ∙ ap (λ (out : List ℕ). record { taken = c.taken; output = out; lines = m; phase = Length 0 0; buffer = b }) front
            ∙ ap (λ (i : ℕ). record { taken = c.taken; output = take c.written c.out.now ++ payload_line i (take have b); lines = i; phase = Length 0 0; buffer = b }) lines;
        buffers = record {
          input = refl;
          out = en;
          long = rw (eo, s.octets) (length-put c.out.now c.written (payload_line m (take have b)) fits);
          more = omega (arith, s.end);
          inside = omega (arith, s.end, fits);
          beyond = rw (eo, s.octets, s.end) (drop-put c.out.now c.written (payload_line m (take have b)) fits);
        };
      })

-- ---- octets are taken

-- how many octets are taken has no part in its buffers
same_buffers : {c d : Call} {n : ℕ} → SameBuffers (record c { taken = n }) d → SameBuffers c d
same_buffers s = record { input = s.input; out = s.out; long = s.long; more = s.more; inside = s.inside; beyond = s.beyond }

module _ {c : Call} {b : List ℕ} (y : Ready c b) where
  room : has_room (Some (length c.out.now)) (stage_of c b) ≡ true
  room = le-leb (length (take c.written c.out.now) + 71) (length c.out.now) (omega (arith, length-take-le c.written c.out.now (omega (arith, y.room)), y.room))

  -- the octet at hand
  rest : drop c.taken c.input.now ≡ get_or c.input.now c.taken 0 ∷ drop (c.taken + 1) c.input.now
  rest = rw add-one (drop-cons c.input.now c.taken 0 y.some)

  -- ---- of a payload

  module _ {left have : ℕ} (f : c.state.phase ≡ Payload left have) (l : 1 ≤ left) (m : have + left ≤ 1400) {n : ℕ} (q : n ≡ min left (length c.input.now - c.taken)) where
    ys : List ℕ
    ys = take n (drop c.taken c.input.now)

    unread : length c.input.now - c.taken ≡ length (drop c.taken c.input.now)
    unread = sym (length-drop c.taken c.input.now)

    long : length ys ≡ n
    unfolding ys
    long = length-take-le n (drop c.taken c.input.now) (omega (arith, unread))

    -- the call and the stage behind them
    abbrev onward : Call
    onward = record c { taken = c.taken + n }

    behind : List ℕ → Stage
    behind b' = within (stage_of c b) (c.taken + n) (left - n) (have + n) b'

    taken_all : run (Some (length c.out.now)) (stage_of c b) (drop c.taken c.input.now) ≡ run (Some (length c.out.now)) (behind (put b have ys)) (drop (c.taken + n) c.input.now)
    unfolding ys behind
    taken_all =
        ap (run (Some (length c.out.now)) (stage_of c b)) (sym (take-append-drop n (drop c.taken c.input.now)))
        ∙ run_octets (Some (length c.out.now)) (stage_of c b) left have ys (drop n (drop c.taken c.input.now)) room f (omega (arith, long, y.some)) (omega (arith, long)) m y.large
        ∙ ap (λ (i : ℕ). run (Some (length c.out.now)) (within (stage_of c b) (c.taken + i) (left - i) (have + i) (put b have ys)) (drop n (drop c.taken c.input.now))) long
        ∙ ap (run (Some (length c.out.now)) (behind (put b have ys))) (drop-drop n c.taken c.input.now)

    pub payload_advances : {b' : List ℕ} → b' ≡ put b have (take n (drop c.taken c.input.now)) → {d : Call}
        → Reaches onward (within (stage_of onward b') (c.taken + n) (left - n) (have + n) b') d b' → Advances c b d b'
    unfolding ys behind
    payload_advances {b'} eb {d} r =
        let e : stage_of d b' ≡ behind b' = r.stage ∙ within-moved (stage_of c b) (c.taken + n) c.state.phase b' (c.taken + n) (left - n) (have + n) b' in
        let k : d.taken ≡ c.taken + n = ap (λ (u : Stage). u.taken) e ∙ within_taken (stage_of c b) (c.taken + n) (left - n) (have + n) b' in
        record {
          further = omega (arith, y.some);
          upto = omega (arith, y.some);
          same =
              taken_all
              ∙ ap (λ (i : List ℕ). run (Some (length c.out.now)) (behind i) (drop (c.taken + n) c.input.now)) (sym eb)
              ∙ ap (λ (u : Stage). run (Some (length c.out.now)) u (drop (c.taken + n) c.input.now)) (sym e)
              ∙ ap (λ (i : ℕ). run (Some (length c.out.now)) (stage_of d b') (drop i c.input.now)) (sym k);
          buffers = same_buffers r.buffers;
        }

  -- ---- behind a bad length

  -- the call where all is taken, and nothing listed
  abbrev pub stopped : Call
  stopped = record c { state = record c.state { phase = BadLength }; taken = length c.input.now }

  stops : run (Some (length c.out.now)) (stage_of c b) (drop c.taken c.input.now) ≡ moved (stage_of c b) (c.taken + length (drop c.taken c.input.now)) BadLength b → Advances c b stopped b
  stops h =
      let n : c.taken + length (drop c.taken c.input.now) ≡ length c.input.now = omega (arith, length-drop c.taken c.input.now, y.some) in
      record {
        further = y.some;
        upto = omega arith;
        same =
            h
            ∙ ap (λ (i : ℕ). moved (stage_of c b) i BadLength b) n
            ∙ ap (run (Some (length c.out.now)) (moved (stage_of c b) (length c.input.now) BadLength b)) (sym (drop_of_length-le c.input.now {i = length c.input.now} (omega arith)));
        buffers = record { input = refl; out = refl; long = refl; more = omega arith; inside = omega (arith, y.room); beyond = refl };
      }

  pub bad_advances : c.state.phase ≡ BadLength → Advances c b stopped b
  bad_advances f = stops (run_bad (Some (length c.out.now)) (stage_of c b) (drop c.taken c.input.now) room f)

  pub unmade_advances : {left have : ℕ} → c.state.phase ≡ Payload left have → is_in_payload left have ≡ false → Advances c b stopped b
  unmade_advances {left} {have} f i =
      stops
      (ap (run (Some (length c.out.now)) (stage_of c b)) rest
      ∙ run_unmade (Some (length c.out.now)) (stage_of c b) left have (get_or c.input.now c.taken 0) (drop (c.taken + 1) c.input.now) room f i
      ∙ ap (λ (l : List ℕ). moved (stage_of c b) (c.taken + length l) BadLength b) (sym rest))

-- ---- the loop

-- the call, in the state s at first, came to d: the listing goes on from there to where it goes from the start; b₀ and o₀ are the buffers as they
-- were lent, and b that for a payload as it is now
pub record Kept (s : State) (input b₀ o₀ : List ℕ) (d : Call) (b : List ℕ) : Type 0 where
  pub upto : d.taken ≤ length input
  pub large : 1400 ≤ length b
  pub is_input : d.input.now ≡ input
  pub long : length d.out.now ≡ length o₀
  pub inside : d.written ≤ length o₀
  pub same : run (Some (length o₀)) (started s b₀) input ≡ run (Some (length o₀)) (stage_of d b) (drop d.taken input)
  pub beyond : drop d.written d.out.now ≡ drop d.written o₀

module _ {s : State} {input b₀ o₀ : List ℕ} {c : Call} {b : List ℕ} (k : Kept s input b₀ o₀ c b) where
  pub kept_step : {d : Call} {b' : List ℕ} → Advances c b d b' → length b' ≡ length b → Kept s input b₀ o₀ d b'
  kept_step {d} {b'} a lb =
      let n : c.written + (d.written - c.written) ≡ d.written = omega (arith, a.buffers.more) in
      record {
        upto = omega (arith, a.upto, ap length k.is_input);
        large = omega (arith, k.large);
        is_input = a.buffers.input ∙ k.is_input;
        long = a.buffers.long ∙ k.long;
        inside = omega (arith, a.buffers.inside, k.long);
        same = k.same ∙ rw (k.long, k.is_input) at a.same;
        beyond =
            a.buffers.beyond
            ∙ ap (λ (i : ℕ). drop i c.out.now) (sym n)
            ∙ sym (drop-drop (d.written - c.written) c.written c.out.now)
            ∙ ap (drop (d.written - c.written)) k.beyond
            ∙ drop-drop (d.written - c.written) c.written o₀
            ∙ ap (λ (i : ℕ). drop i o₀) n;
      }

  -- what the loop answers where it ends
  final : (t : Stage) → t ≡ stage_of c b → Answered t o₀ (record { state = c.state; taken = c.taken; written = c.written }) b c.out.now
  final t e =
      let l : length (take c.written c.out.now) ≡ c.written = length-take-le c.written c.out.now (omega (arith, k.inside, k.long)) in
      let z : 0 + length (take c.written c.out.now) ≡ c.written = omega arith in
      rw e
      (record {
        progress = ap (λ (i : ℕ). record { state = c.state; taken = c.taken; written = i }) (sym l);
        buffer = refl;
        output =
            sym (take-append-drop c.written c.out.now)
            ∙ ap (λ (x : List ℕ). take c.written c.out.now ++ x) (k.beyond ∙ ap (λ (i : ℕ). drop i o₀) (sym z));
      })

  -- all is taken
  pub kept_all : length c.input.now ≤ c.taken
      → Answered (run (Some (length o₀)) (started s b₀) input) o₀ (record { state = c.state; taken = c.taken; written = c.written }) b c.out.now
  kept_all h =
      final (run (Some (length o₀)) (started s b₀) input)
      (k.same ∙ ap (run (Some (length o₀)) (stage_of c b)) (drop_of_length-le input {i = c.taken} (omega (arith, ap length k.is_input))))

  -- no line has room
  pub kept_full : length c.out.now - c.written < 71
      → Answered (run (Some (length o₀)) (started s b₀) input) o₀ (record { state = c.state; taken = c.taken; written = c.written }) b c.out.now
  kept_full h =
      let l : length (take c.written c.out.now) ≡ c.written = length-take-le c.written c.out.now (omega (arith, k.inside, k.long)) in
      final (run (Some (length o₀)) (started s b₀) input)
      (k.same
      ∙ run_full (Some (length o₀)) (stage_of c b) (drop c.taken input)
      (lt-leb (length (take c.written c.out.now) + 71) (length o₀) (omega (arith, k.long))))
