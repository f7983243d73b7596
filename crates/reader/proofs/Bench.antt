-- Reading each example payload gives what the table says, by computation.
use mathlib.Core.Path.{◌≡◌, refl}
use mathlib.Core.List.{List, map}
use Prim.Native.Nat.{ℕ}
use Rattle.wire.specs.Frame.{framing_of, count_in, ticks_of_rate}
use Rattle.wire.specs.Walk.{named, counted, ending, whole, last_frame, beside, read_of}
use Rattle.wire.specs.declared.Session.{Session}
use Rattle.wire.specs.declared.Framing.TheVariants.{Unframed}
use Rattle.reader.specs.Reading.{outcome, read_in}
use Rattle.reader.specs.Bench.{Gives, gives_of, gives_in, zeros, payloads, sessions}

pub bench : map (λ (line : List ℕ × Gives). gives_of (read_of Unframed line.0)) payloads ≡ map (λ (line : List ℕ × Gives). line.1) payloads
unfolding count_in ticks_of_rate named counted ending whole last_frame beside read_of
bench = refl

pub session_bench :
    map (λ (line : Session × List ℕ × Gives). gives_in (read_in (framing_of line.0) line.1 (zeros 2) (zeros 7))) sessions
    ≡ map (λ (line : Session × List ℕ × Gives). line.2) sessions
unfolding count_in ticks_of_rate named counted ending whole last_frame beside read_of outcome
session_bench = refl
