-- `position` finds the first field with a bit above its width.
use Rattle.std.proofs.Common.{refl, ◌<◌, rules, tests}
use Rattle.std.proofs.lemmas.Iterator.{YieldsList-from_slice, YieldsList-from_zip, IsFirst-from_position}
use Rattle.std.proofs.lemmas.Iterator.Adapters.{serves_from_places}
use Rattle.fields.proofs.Large.{IsLarge, IsSmall, width_at, found_large}
use Rattle.fields.proofs.Mode.first_large.Goals as goal

pub position-requires-clause-callable : goal.position-requires-clause-callable
position-requires-clause-callable c =
    serves_from_places (YieldsList-from_zip (YieldsList-from_slice c.args.fields.now (cc)) (YieldsList-from_slice c.args.self.widths.now (cc)))
    (λ x q k. refl) (λ x k l e. let small : x.1.now < 16 = width_at _ _ c.requires c.args.self.ruled k _ _ l e in search rules)

pub returns : goal.returns
returns c =
    found_large _ _ c.requires _
    (IsFirst-from_position c.position.new.self _ c.position.result IsLarge IsSmall c.position.ensures.ran
    (YieldsList-from_zip (YieldsList-from_slice c.args.fields.now (cc)) (YieldsList-from_slice c.args.self.widths.now (cc)))
    (λ x q k. search (rules, tests)) (λ x q k. search (rules, tests)))
