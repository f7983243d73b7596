-- `moult::moult_count` counts what the walk found.
use Rattle.std.proofs.Common.{arith}
use Rattle.moult.proofs.Counts.{few, count_whole, count_refused}
use Rattle.moult.proofs.moult_count.Goals as goal

pub overflow_cast-result : goal.overflow_cast-result
overflow_cast-result c = record { sfits = omega (arith, few _ (λ i. (c.type_inv.payload i).fits) c.walk.ensures.answer _ c.in-Ok.is) }

pub returns-in-Ok : goal.returns-in-Ok
returns-in-Ok c = count_whole _ (λ i. (c.type_inv.payload i).fits) c.walk.ensures.answer _ c.in-Ok.is

pub returns-in-Err : goal.returns-in-Err
returns-in-Err c = rw (c.from-in-Err.ensures, c.from.ensures) (count_refused _ (λ i. (c.type_inv.payload i).fits) c.walk.ensures.answer _ c.in-Err.is)
