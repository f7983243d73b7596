-- `fmtp::read_text::take_number` counts the digits behind the first one.
use Rattle.std.proofs.Common.{◌≡◌, ◌≤◌, length}
use Rattle.fmtp.specs.Steps.{digits_on, take_number}
use Rattle.fmtp.proofs.read_text.take_number.Given as goal

abbrev pub invariant-loop-rest : goal.invariant-loop-rest
invariant-loop-rest l = (l.number ≤ 255) × (digits_on l.number l.rest ≡ take_number l.fn.text)

abbrev pub decreases-loop-rest : goal.decreases-loop-rest
decreases-loop-rest l = length l.rest
