-- What the private functions promise each other; no public promise reaches it.
use Rattle.std.specs.Prelude.{◌≡◌, List, ℕ, ◌+◌, ◌≤◌, ◌<◌, length, take, drop, Some}
use Rattle.octets.specs.Put.{put}
use Rattle.listing.specs.Listing.{most_octets, line_room, Stage, run}
use Rattle.listing.specs.Answers.{progress_of}
use Rattle.listing.specs.declared.Progress.{Progress}
use Rattle.listing.specs.declared.Call.{Call}

-- xs is stored in o from the index a on, which leaves e, and r is the index behind it
pub record Stored (o : List ℕ) (a : ℕ) (xs e : List ℕ) (r : ℕ) : Type 0 where
  pub octets : e ≡ put o a xs
  pub end : r ≡ a + length xs

-- the stage of a call, with b in the payload's buffer
abbrev pub stage_of : Call → List ℕ → Stage
stage_of c b = record { taken = c.taken; output = take c.written c.out.now; lines = c.state.lines; phase = c.state.phase; buffer = b }

-- an octet of the input is to be taken, and there is room for a line and a payload
pub record Ready (c : Call) (b : List ℕ) : Type 0 where
  pub some : c.taken < length c.input.now
  pub room : c.written + line_room ≤ length c.out.now
  pub large : most_octets ≤ length b

-- the call d has the buffers of c, and of its output buffer only what d wrote is changed
pub record SameBuffers (c d : Call) : Type 0 where
  pub input : d.input.now ≡ c.input.now
  pub out : d.out.ghost_name ≡ c.out.ghost_name
  pub long : length d.out.now ≡ length c.out.now
  pub more : c.written ≤ d.written
  pub inside : d.written ≤ length c.out.now
  pub beyond : drop d.written d.out.now ≡ drop d.written c.out.now

-- from the call c on the stage t is reached: it is that of d, with b in the payload's buffer
pub record Reaches (c : Call) (t : Stage) (d : Call) (b : List ℕ) : Type 0 where
  pub stage : stage_of d b ≡ t
  pub buffers : SameBuffers c d

-- from the call c on octets of the input are taken, up to the call d, from which the listing goes on to where it goes from c
pub record Advances (c : Call) (b : List ℕ) (d : Call) (b' : List ℕ) : Type 0 where
  pub further : c.taken < d.taken
  pub upto : d.taken ≤ length c.input.now
  pub same : run (Some (length c.out.now)) (stage_of c b) (drop c.taken c.input.now) ≡ run (Some (length c.out.now)) (stage_of d b') (drop d.taken c.input.now)
  pub buffers : SameBuffers c d

-- r is the progress of the stage t, b what it leaves in the payload's buffer, and e what it leaves of the output buffer o
pub record Answered (t : Stage) (o : List ℕ) (r : Progress) (b e : List ℕ) : Type 0 where
  pub progress : r ≡ progress_of t
  pub buffer : b ≡ t.buffer
  pub output : e ≡ put o 0 t.output
