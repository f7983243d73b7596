-- `views::frame_or` shows the row's own octets, or the whole stand-in.
use Rattle.views.proofs.RowLocation.{within}
use Rattle.views.proofs.Shown.{frame_missing, frame_at}
use Rattle.views.proofs.frame_or.Goals as goal

pub part_of-requires : goal.part_of-requires
part_of-requires c = (within _ _ _ (λ i. (c.type_inv.payload i).fits) c.locate.ensures _ c.in-Some.is).frame

pub returns-in-None : goal.returns-in-None
returns-in-None c = frame_missing _ _ _ (λ i. (c.type_inv.payload i).fits) c.locate.ensures.answer _ c.in-None.is

pub returns-in-Some : goal.returns-in-Some
returns-in-Some c = frame_at _ _ _ (λ i. (c.type_inv.payload i).fits) c.locate.ensures.answer _ c.in-Some.is _ c.part_of.ensures
