-- `moult::frame_or_in` answers where the part is that `views::frame_or` shows.
use Rattle.moult.proofs.Structs.{frame_none, frame_there}
use Rattle.moult.proofs.frame_or_in.Goals as goal

pub returns-in-None : goal.returns-in-None
returns-in-None c = frame_none _ _ _ (λ i. (c.type_inv.payload i).fits) c.locate.ensures _ c.in-None.is

pub returns-in-Some : goal.returns-in-Some
returns-in-Some c = rw c.into.ensures (frame_there _ _ _ (λ i. (c.type_inv.payload i).fits) c.locate.ensures _ c.in-Some.is _)
