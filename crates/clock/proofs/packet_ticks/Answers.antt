-- `clock::packet_ticks` asks for the session's framing, and walks with it.
use Rattle.std.proofs.Common.{arith}
use Rattle.std.proofs.lemmas.Grind.{common_steps}
use Rattle.clock.proofs.Times.{packet_time}
use Rattle.clock.proofs.packet_ticks.Goals as goal

pub returns : goal.returns
returns c = packet_time _ _ (λ i. (c.type_inv.payload i).fits) (grind (arith, common_steps))

pub returns-in_err-framing : goal.returns-in_err-framing
returns-in_err-framing c = packet_time _ _ (λ i. (c.type_inv.payload i).fits) (grind (arith, common_steps))

pub returns-in_err-summary : goal.returns-in_err-summary
returns-in_err-summary c = packet_time _ _ (λ i. (c.type_inv.payload i).fits) (grind (arith, common_steps))
