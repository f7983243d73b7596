-- The fields that were passed are filled.
use Rattle.std.proofs.Common.{◌≡◌, List, ℕ, ◌+◌, ◌-◌, ◌%◌, ◌≤◌, ◌<◌, length, get_or, sym, ◌∙◌, arith}
use Rattle.fields.specs.Table.{consecutive}
use Rattle.fields.specs.Widths.{IsWidths}
use Rattle.fields.proofs.Modes.{widths_order}
use Rattle.fields.proofs.Tables.{length-consecutive, width_consecutive}
use Rattle.fields.proofs.Unpacking.{FieldsTaken, taken_start, taken_room, taken_step, taken_end, shifted}
use Rattle.fields.proofs.Mode.take_fields.Goals as goal

-- the field is one of one to eight bits, of the 54 of all
room : (ws body old now : List ℕ) (at i : ℕ) → IsWidths ws → FieldsTaken (consecutive 0 ws) body old now at i → length old ≡ length ws → i < length old
    → (1 ≤ get_or ws i 0) × (get_or ws i 0 ≤ 8) × (at + get_or ws i 0 ≤ 54)
room ws body old now at i ruled taken size l =
    let each : (1 ≤ get_or ws i 0) × (get_or ws i 0 ≤ 8) = ruled.each i (omega arith) in
    let same : length (consecutive 0 ws) ≡ length ws = length-consecutive 0 ws in
    (each.0, each.1, taken_room _ _ _ _ _ _ taken (size ∙ sym same) (widths_order ws ruled) (omega arith) (sym (width_consecutive 0 ws i)))

pub loop-i-init : goal.loop-i-init
loop-i-init c = taken_start _ _ _

pub bounds-pairs-at : goal.bounds-pairs-at
bounds-pairs-at c = omega (arith, room _ _ _ _ _ _ c.args.self.ruled c.loop-i.invariant c.requires c.loop-i-test.true)

pub overflow_add-at : goal.overflow_add-at
overflow_add-at c = omega (arith, room _ _ _ _ _ _ c.args.self.ruled c.loop-i.invariant c.requires c.loop-i-test.true)

pub loop-i-preserved : goal.loop-i-preserved
loop-i-preserved c =
    let ws : List ℕ = c.args.self.widths.now in
    let w : ℕ = get_or ws c.loop-i.i 0 in
    let r : (1 ≤ w) × (w ≤ 8) × (c.loop-i.at + w ≤ 54) = room _ _ _ _ _ _ c.args.self.ruled c.loop-i.invariant c.requires c.loop-i-test.true in
    let same : length (consecutive 0 ws) ≡ length ws = length-consecutive 0 ws in
    rw c.from-at.ensures
    (taken_step _ _ _ _ _ _ c.loop-i.invariant (c.requires ∙ sym same) (widths_order ws c.args.self.ruled) (omega arith) (sym (width_consecutive 0 ws _))
    (16 - w - c.loop-i.at % 8) (omega arith) (c.neighbours-pairs.ensures _ (omega arith)) (shifted _ _ w _ (omega arith)))

pub returns : goal.returns
returns c =
    let same : length (consecutive 0 c.args.self.widths.now) ≡ length c.args.self.widths.now = length-consecutive 0 c.args.self.widths.now in
    taken_end _ _ _ _ _ _ c.loop-i.invariant (c.requires ∙ sym same) (omega arith)
