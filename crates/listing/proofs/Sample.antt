-- The input that docs/FORMAT.md shows gives its four lines, and the empty input its one line, by computation.
use mathlib.Core.Path.{◌≡◌, refl}
use mathlib.Core.List.{[], ◌∷◌}
use Rattle.wire.specs.Frame.{count_in, ticks_of_rate}
use Rattle.wire.specs.Walk.{named, counted, ending, whole, last_frame, beside, read_of}
use Rattle.leb128.specs.Number.{last_group, more_groups, step_of}
use Rattle.listing.specs.Line.{decimal}
use Rattle.listing.specs.Listing.{following, listing}
use Rattle.listing.specs.Sample.{input, output}

pub sample : listing input ≡ output
unfolding count_in ticks_of_rate named counted ending whole last_frame beside read_of last_group more_groups step_of decimal following listing
sample = refl

pub nothing : listing [] ≡ 101 ∷ 110 ∷ 100 ∷ 32 ∷ 48 ∷ 10 ∷ []
unfolding decimal listing
nothing = refl
