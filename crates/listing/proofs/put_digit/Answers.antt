-- `listing::put_digit` stores a digit.
use Rattle.std.proofs.Common.{refl, ◌+◌}
use Rattle.octets.proofs.Put.{put_one}
use Rattle.listing.proofs.put_digit.Goals as goal

pub returns : goal.returns
returns c = record { octets = put_one c.args.out.now c.args.at (48 + c.args.digit) c.requires.0; end = refl }
