-- `views::augmentation` shows the row's augmentation, or the empty part at the payload's start.
use Rattle.views.proofs.RowLocation.{within}
use Rattle.views.proofs.Shown.{augmentation_missing, augmentation_at_lem}
use Rattle.views.proofs.augmentation.Goals as goal

pub part_of-requires : goal.part_of-requires
part_of-requires c = (within _ _ _ (λ i. (c.type_inv.payload i).fits) c.locate.ensures _ c.in-Some.is).augmentation

pub returns-in-None : goal.returns-in-None
returns-in-None c = augmentation_missing _ _ _ (λ i. (c.type_inv.payload i).fits) c.locate.ensures.answer c.in-None.is

pub returns-in-Some : goal.returns-in-Some
returns-in-Some c = augmentation_at_lem _ _ _ (λ i. (c.type_inv.payload i).fits) c.locate.ensures.answer _ c.in-Some.is c.part_of.ensures
