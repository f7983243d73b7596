-- `moult::moult_record_ticks` answers the ticks that a record holds.
use Rattle.std.proofs.Common.{refl, ap}
use Rattle.record.specs.Afresh.{record_of}
use Rattle.record.specs.declared.Record.{Record}
use Rattle.moult.proofs.moult_record_ticks.Goals as goal

pub returns : goal.returns
unfolding record_of
returns c = record { answer = refl; made = λ xs m. ap (λ (p : Record). p.ticks) m.is }
