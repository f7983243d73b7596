-- What the loop that walks a payload keeps: it is at a state of the walk, and holds the numbers of the frames read.
use mathlib.Core.Path.{◌≡◌, refl, sym, ap, ◌∙◌}
use mathlib.Core.Bool.{cond}
use mathlib.Core.List.{List, [], ◌∷◌}
use Prim.Native.Nat.{ℕ, zero, suc, ◌+◌, ◌-◌, ◌*◌, ◌≤◌, ◌<◌}
use native.Mathlib.Omega.{arith}
use lib.Dec.{eqb}
use lib.ListN.{length, take}
use borrow.Author.Tests.{lt-ltb, le-ltb, eq-eqb, ne_eqb}
use native.Mathlib.Decide.{ℕ_discrete}
use native.Mathlib.Nat.{add-mul}
use Rattle.std.specs.Prelude.{Result, Ok, Err}
use Rattle.refusal.specs.declared.Reason.TheVariants.{TooLong}
use Rattle.refusal.specs.declared.Reason.{Reason}
use Rattle.refusal.specs.declared.Refusal.{Refusal}
use Rattle.refusal.specs.Report.{report_of, refusal}
use Rattle.octets.specs.Octet.{Octets}
use Rattle.wire.specs.Frame.{Frame, agreed_rate, rate, ticks, ticks_of_rate, body_octets, wire_octets, sum_of, rows_of, bodies_of}
use Rattle.wire.specs.Walk.{last_frame, rate_of, beside, over, next, frame_at, run, read_of, Walk, at, refused}
use Rattle.wire.specs.Answers.{shape_of, step_of, summary_of, walked_of, walk_report, nothing, Walks}
use Rattle.wire.specs.declared.Framing.{Framing, Framing}
use Rattle.wire.specs.declared.Row.{Row, Row}
use Rattle.wire.specs.declared.Shape.{Shape, Shape}
use Rattle.wire.specs.declared.Summary.{Summary, Summary}
use Rattle.wire.proofs.TableLaws.{bounds}
use Rattle.wire.proofs.Endings.{last_take}
use Rattle.wire.proofs.Octets.{length_bodies}
use Rattle.wire.proofs.Rates.{ticks_most, at_none, rate-kept, rate_read}
use Rattle.wire.proofs.WholeFrame.{Whole, last_says, beside_keeps}
use Rattle.wire.proofs.Complete.{next_at, stay}
use Rattle.wire.proofs.Sound.{sound, run-refused}

-- what was read leaves room for one more frame
pub record Addable (s : Summary) (x : Shape) : Type 0 where
  pub frames : s.frames ≤ 1400
  pub octets : s.octets + x.body ≤ 1400
  pub ticks : s.ticks ≤ 720 * 1400

-- what was read and the rate wanted, with one more frame
pub record Added (s : Summary) (w : ℕ) (x : Shape) (r : Summary) (v : ℕ) : Type 0 where
  pub frames : r.frames ≡ s.frames + 1
  pub octets : r.octets ≡ s.octets + x.body
  pub rate : r.rate ≡ cond (eqb x.entry.rate 0) s.rate x.entry.rate
  pub ticks : r.ticks ≡ s.ticks + ticks_of_rate x.entry.rate
  pub wanted : v ≡ cond (eqb x.entry.rate 0) w x.entry.rate

-- what was read, where k coder frames of rate r have all of its ticks
abbrev pub counted : ℕ → ℕ → ℕ → ℕ → Summary
counted f k o r = record { frames = f; octets = o; rate = r; ticks = k * ticks_of_rate r }

-- the unread octets hold a frame of these numbers, and they can be added
pub record Fits (u : ℕ) (s : Summary) (x : Shape) : Type 0 where
  pub wire : x.wire ≤ u
  pub some : 2 ≤ x.wire
  pub body : x.body ≤ x.wire
  pub add : Addable s x

-- one more frame: comfort noise, or a coder frame of the rate of those read
module _ (f k o r w : ℕ) (x : Shape) where
  pub added_noise : x.entry.rate ≡ 0 → Added (counted f k o r) w x (counted (f + 1) k (o + x.body) r) w
  added_noise z =
      let none : 0 ≡ ticks_of_rate x.entry.rate = at_none x.entry.rate (λ e. omega arith) (λ e. omega arith) (λ e. omega arith) in
      record { frames = refl; octets = refl; rate = sym (simp (eq-eqb x.entry.rate 0 z)); ticks = rw (← none) (omega arith); wanted = sym (simp (eq-eqb x.entry.rate 0 z)) }

  pub added_coder : (x.entry.rate ≡ 0 → ⊥) → (r ≡ 0 → k ≡ 0) → ((r ≡ 0 → ⊥) → x.entry.rate ≡ r) → Added (counted f k o r) w x (counted (f + 1) (k + 1) (o + x.body) x.entry.rate) x.entry.rate
  added_coder z none same =
      record { frames = refl; octets = refl; rate = sym (simp (ne_eqb x.entry.rate 0 z)); ticks = go (ℕ_discrete r 0); wanted = sym (simp (ne_eqb x.entry.rate 0 z)) }
    where
      go : Dec (r ≡ 0) → (k + 1) * ticks_of_rate x.entry.rate ≡ k * ticks_of_rate r + ticks_of_rate x.entry.rate
      go (yes e) = rw (none e) (omega arith)
      go (no e) = rw (same e) (add-mul k 1 (ticks_of_rate r) ∙ omega arith)

module _ (fr : Framing) where
  -- u octets are unread, s is what the frames behind them hold, and w the rate wanted of a coder frame before them
  pub record WalkLoop (p : List ℕ) (u : ℕ) (s : Summary) (w : ℕ) : Type 0 where
    pub behind : List Frame
    pub fuel : ℕ
    pub enough : u ≤ fuel
    pub same : run fr fuel p (at u behind) ≡ read_of fr p
    pub frames : s.frames ≡ length behind
    pub octets : s.octets ≡ sum_of body_octets (rows_of behind)
    pub rate : s.rate ≡ rate_of 0 (rows_of behind)
    pub ticks : s.ticks ≡ sum_of ticks (rows_of behind)
    pub wanted : w ≡ rate_of (agreed_rate fr) (rows_of behind)
    pub few : s.frames + u ≤ length p
    pub room : s.octets + u ≤ length p
    pub time : s.ticks ≤ 720 * s.frames
    pub short : length p ≤ 1400

  -- the walk's answer has the walk's numbers
  pub walks : (p : List ℕ) {r : Result Summary Refusal} → r ≡ walked_of (read_of fr p) → Walks fr p r
  walks p e = record { answer = e; numbers = ap (report_of nothing) e ∙ go (read_of fr p) }
    where
      go : (w : Walk) → report_of nothing (walked_of w) ≡ walk_report w
      go (at u fs) = refl
      go (refused n place behind) = refl

  pub too_long_lem : (p : List ℕ) → 1400 < length p → Err (refusal TooLong 1400) ≡ walked_of (read_of fr p)
  unfolding read_of
  too_long_lem p h = simp (lt-ltb 1400 (length p) h)

  pub loop_start : (p : List ℕ) → length p ≤ 1400 → {w : ℕ} → w ≡ agreed_rate fr → WalkLoop p (length p) (counted 0 0 0 0) w
  unfolding read_of
  loop_start p h e = record {
    behind = [];
    fuel = length p;
    enough = omega arith;
    same = simp (le-ltb 1400 (length p) h);
    frames = refl;
    octets = refl;
    rate = refl;
    ticks = omega arith;
    wanted = e;
    few = omega arith;
    room = omega arith;
    time = omega arith;
    short = h;
  }

  pub loop_end : (p : List ℕ) (u : ℕ) (s : Summary) (w : ℕ) → Octets p → WalkLoop p u s w → u ≤ 0 → Ok s ≡ walked_of (read_of fr p)
  loop_end p u s w o h l =
      let z : u ≡ 0 = omega arith in
      let read : read_of fr p ≡ at 0 h.behind = sym h.same ∙ ap (λ (v : ℕ). run fr h.fuel p (at v h.behind)) z ∙ stay fr h.fuel p h.behind in
      let bodies : s.octets ≡ length (bodies_of h.behind) = h.octets ∙ sym (length_bodies fr h.behind (sound fr p h.behind o read).0.bodies) in
      let holds : s ≡ summary_of h.behind = λ i. record { frames = h.frames i; octets = bodies i; rate = h.rate i; ticks = h.ticks i } in
      ap Ok holds ∙ ap walked_of (sym read)

  -- what a step came to, as the walk has it
  stopped : (e : Result Row Reason) (n : Reason) {f : Result Shape Reason} → f ≡ Err n → f ≡ step_of fr e → e ≡ Err n
  stopped (Err m) n a b = let q : m ≡ n = cc in ap Err q
  stopped (Ok x) n a b = absurd (let z : ◌≡◌ {A = ℕ} 0 1 = cc in omega arith)

  pub record WentOver (e : Result Row Reason) (s : Shape) : Type 0 where
    pub row : Row
    pub names : e ≡ Ok row
    pub shape : s ≡ shape_of fr row

  went_over : (e : Result Row Reason) (s : Shape) {f : Result Shape Reason} → f ≡ Ok s → f ≡ step_of fr e → WentOver e s
  went_over (Err n) s a b = absurd (let z : ◌≡◌ {A = ℕ} 0 1 = cc in omega arith)
  went_over (Ok x) s a b = record { row = x; names = refl; shape = cc }

  module _ (p : List ℕ) (u : ℕ) (s : Summary) (w : ℕ) (h : WalkLoop p u s w) (pos : 1 ≤ u) where
    here : Result Row Reason
    here = beside (length h.behind) (rate_of (agreed_rate fr) (rows_of h.behind)) (last_frame fr p u)

    there : {f : Result Shape Reason} → f ≡ step_of fr (beside s.frames w (last_frame fr (take u p) (length (take u p)))) → f ≡ step_of fr here
    unfolding here
    there e =
        e
        ∙ ap (λ (x : Result Row Reason). step_of fr (beside s.frames w x)) (last_take fr p u (omega (arith, h.few)))
        ∙ ap (λ (n : ℕ). step_of fr (beside n w (last_frame fr p u))) h.frames
        ∙ ap (λ (r : ℕ). step_of fr (beside (length h.behind) r (last_frame fr p u))) h.wanted

    goes : (e : Result Row Reason) → here ≡ e → next fr p (at u h.behind) ≡ over fr p u h.behind e
    unfolding here
    goes e i = next_at fr p u h.behind pos ∙ ap (over fr p u h.behind) i

    pub loop_refused : (n : Reason) {f : Result Shape Reason} → f ≡ Err n → f ≡ step_of fr (beside s.frames w (last_frame fr (take u p) (length (take u p))))
        → Err (refusal n u) ≡ walked_of (read_of fr p)
    loop_refused n a e = go h.fuel h.enough h.same
      where
        go : (f : ℕ) → u ≤ f → run fr f p (at u h.behind) ≡ read_of fr p → Err (refusal n u) ≡ walked_of (read_of fr p)
        go zero l q = absurd (omega arith)
        go (suc f) l q = rw (← q, goes (Err n) (stopped here n a (there e)), run-refused fr f p n u h.behind)

    module _ (o : Octets p) (x : Shape) {f : Result Shape Reason} (a : f ≡ Ok x) (e : f ≡ step_of fr (beside s.frames w (last_frame fr (take u p) (length (take u p))))) where
      went : WentOver here x
      went = went_over here x a (there e)

      whole : Whole fr p u went.row
      unfolding here
      whole = rw went.names at (beside_keeps fr p u (length h.behind) (rate_of (agreed_rate fr) (rows_of h.behind)) (last_frame fr p u) (last_says fr p u o pos))

      pub loop_rate : (x.entry.rate ≡ 0 → ⊥) → (s.rate ≡ 0 → ⊥) → x.entry.rate ≡ s.rate
      unfolding here
      loop_rate a b =
          let rated : x.entry.rate ≡ rate went.row = ap (λ (y : Shape). y.entry.rate) went.shape in
          let read : rate_of (agreed_rate fr) (rows_of h.behind) ≡ s.rate = rate_read (agreed_rate fr) (rows_of h.behind) (λ d. b (h.rate ∙ d)) ∙ sym h.rate in
          rated ∙ rate-kept (length h.behind) (rate_of (agreed_rate fr) (rows_of h.behind)) (last_frame fr p u) went.row went.names (λ d. b (sym read ∙ d)) (λ d. a (rated ∙ d)) ∙ read

      pub loop_fits : Fits u s x
      loop_fits =
          let b = bounds went.row.kind in
          let wire : x.wire ≡ wire_octets went.row = ap (λ (y : Shape). y.wire) went.shape in
          let body : x.body ≡ body_octets went.row = ap (λ (y : Shape). y.body) went.shape in
          let room : wire_octets went.row ≤ u = whole.room in
          record {
            wire = omega arith;
            some = omega arith;
            body = omega arith;
            add = record {
              frames = omega (arith, h.few, h.short);
              octets = omega (arith, h.room, h.short);
              ticks = omega (arith, h.time, h.few, h.short);
            };
          }

      pub loop_over : (r : Summary) (v : ℕ) → Added s w x r v → WalkLoop p (u - x.wire) r v
      loop_over r v d = go h.fuel h.enough h.same
        where
          fits : Fits u s x
          fits = loop_fits

          go : (f : ℕ) → u ≤ f → run fr f p (at u h.behind) ≡ read_of fr p → WalkLoop p (u - x.wire) r v
          go zero l q = absurd (omega arith)
          go (suc f) l q =
              let y : Row = went.row in
              let wire : x.wire ≡ wire_octets y = ap (λ (z : Shape). z.wire) went.shape in
              let body : x.body ≡ body_octets y = ap (λ (z : Shape). z.body) went.shape in
              let rated : x.entry.rate ≡ rate y = ap (λ (z : Shape). z.entry.rate) went.shape in
              record {
                behind = frame_at fr p (u - wire_octets y) y ∷ h.behind;
                fuel = f;
                enough = omega (arith, fits.some);
                same = ap (λ (v : ℕ). run fr f p (at (u - v) (frame_at fr p (u - wire_octets y) y ∷ h.behind))) wire ∙ ap (run fr f p) (sym (goes (Ok y) went.names)) ∙ q;
                frames = omega (arith, d.frames, h.frames);
                octets = omega (arith, d.octets, h.octets);
                rate = d.rate ∙ ap (λ (v : ℕ). cond (eqb v 0) s.rate v) rated ∙ ap (λ (v : ℕ). cond (eqb (rate y) 0) v (rate y)) h.rate;
                ticks = omega (arith, d.ticks, h.ticks, ap ticks_of_rate rated);
                wanted = d.wanted ∙ ap (λ (z : ℕ). cond (eqb z 0) w z) rated ∙ ap (λ (z : ℕ). cond (eqb (rate y) 0) z (rate y)) h.wanted;
                few = omega (arith, d.frames, h.few, fits.some, fits.wire);
                room = omega (arith, d.octets, h.room, fits.wire, fits.body);
                time = omega (arith, d.ticks, d.frames, h.time, ticks_most x.entry.rate);
                short = h.short;
              }
