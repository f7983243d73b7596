-- `moult::augmentation_in` answers where the part is that `views::augmentation` shows.
use Rattle.moult.proofs.Structs.{augmentation_none, augmentation_there}
use Rattle.moult.proofs.augmentation_in.Goals as goal

pub returns-in-None : goal.returns-in-None
returns-in-None c = augmentation_none _ _ _ (λ i. (c.type_inv.payload i).fits) c.locate.ensures c.in-None.is

pub returns-in-Some : goal.returns-in-Some
returns-in-Some c = rw c.into.ensures (augmentation_there _ _ _ (λ i. (c.type_inv.payload i).fits) c.locate.ensures _ c.in-Some.is)
