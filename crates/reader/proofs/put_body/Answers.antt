-- `reader::put_body` puts a frame's body in place: a copy, and a store that clears the rate code bits.
use mathlib.Core.Path.{refl, sym}
use Rattle.octets.proofs.Parts.{over-whole}
use Rattle.reader.proofs.put_body.Goals as goal

pub returns : goal.returns
returns c = rw (c.copy.ensures, over-whole _ _ (sym c.requires.room)) refl
