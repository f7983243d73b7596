-- `moult::moult_body_octets` looks the kind up, and asks the table for the TC and the octets.
use Rattle.moult.proofs.Structs.{octets_unknown, octets_known, octets_below, octets_over, octets_there}
use Rattle.moult.proofs.moult_body_octets.Goals.{then-shape-via-then-shape, then-shape-via-else-shape+then-shape-2}
use Rattle.moult.proofs.moult_body_octets.Goals as goal

pub returns-in_default : goal.returns-in_default
returns-in_default c = octets_unknown _ _ c.try_from.ensures _ c.in_default.is

pub returns-then-shape : goal.returns-then-shape
returns-then-shape c =
    octets_known _ _ c.try_from.ensures _ c.in-Ok.is
    (elim c.then-shape.branch [
      | then-shape-via-then-shape w ↦ octets_below _ _ c.shape_of-shape.ensures w.if-shape.true
      | then-shape-via-else-shape+then-shape-2 w ↦ octets_over _ _ c.shape_of-shape.ensures w.if-shape.false w.if-shape-2.true
    ])

pub returns : goal.returns
returns c = octets_known _ _ c.try_from.ensures _ c.in-Ok.is (octets_there _ _ c.shape_of-shape.ensures c.if-shape.false c.if-shape-2.false)
