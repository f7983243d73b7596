-- `Record::row_behind` answers as the writer's checks of all rows do.
use Rattle.std.proofs.Common.{◌<◌, Ok, Err, arith, rules}
use Rattle.wire.specs.Frame.{row}
use Rattle.std.proofs.lemmas.Grind.{common_steps}
use Rattle.record.proofs.RowLists.{wire_most}
use Rattle.record.proofs.Changed.{behind, fitting}
use Rattle.record.proofs.Record.row_behind.Goals as goal

pub returns-in_err-map_err : goal.returns-in_err-map_err
returns-in_err-map_err c = behind _ _ _ c.requires.rows c.check_end.ensures (grind (arith, common_steps))

pub returns-in_err-kind : goal.returns-in_err-kind
returns-in_err-kind c = behind _ _ _ c.requires.rows c.check_end.ensures (grind (arith, common_steps))

pub overflow_add-self : goal.overflow_add-self
overflow_add-self c = let tc : c.args.tc < 65536 = search rules in omega (arith, wire_most _ c.shape_of.ensures)

pub returns-then-self-shape_of-gt-MOST_OCTETS : goal.returns-then-self-shape_of-gt-MOST_OCTETS
unfolding fitting
returns-then-self-shape_of-gt-MOST_OCTETS c = behind _ _ _ c.requires.rows c.check_end.ensures {r = Err c.at.result} (grind (arith, common_steps))

pub returns : goal.returns
unfolding fitting
returns c = behind _ _ _ c.requires.rows c.check_end.ensures {r = Ok (row c.in_ok-kind.kind c.args.tc)} (grind (arith, common_steps))
