-- `wire::shape_of` gives a row's numbers; they fit, since a base has at most 11 octets and a count at most two.
use mathlib.Core.Path.{ap}
use native.Mathlib.Omega.{arith}
use Rattle.wire.specs.declared.Entry.{Entry}
use Rattle.wire.proofs.TableLaws.{bounds, count_most}
use Rattle.wire.proofs.shape_of.Goals as goal

pub overflow_add-result : goal.overflow_add-result
overflow_add-result c =
    let b = bounds c.args.row.kind in
    omega (
      arith,
      ap (λ (e : Entry). e.octets) c.entry_in-entry.ensures,
      ap (λ (e : Entry). e.octets) c.entry_of.ensures,
      c.count_octets-count.ensures,
      count_most c.entry_in-entry.result.counting c.from-tc.result,
    )
