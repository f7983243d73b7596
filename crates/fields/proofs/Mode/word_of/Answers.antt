-- The word has the bits of the fields that were passed.
use Rattle.std.proofs.Common.{◌≡◌, List, [], ℕ, ◌<◌, length, get_or, sym, ◌∙◌, arith}
use Rattle.std.proofs.lemmas.List.{length_push}
use Rattle.std.proofs.lemmas.Slice.Zip.{zip_turn, zip_end}
use Rattle.fields.specs.Table.{consecutive}
use Rattle.fields.proofs.Modes.{widths_order}
use Rattle.fields.proofs.Packing.{joined_start, joined_lt, joined_step, joined_end}
use Rattle.fields.proofs.Tables.{length-consecutive, width_consecutive}
use Rattle.fields.proofs.Mode.word_of.Goals.{After-from}
use Rattle.fields.proofs.Mode.word_of.Goals as goal

-- the field and the width of a turn are those at the number of turns before it
record Turn (fields widths : List ℕ) (field width n : ℕ) : Type 0 where
  within : n < length (consecutive 0 widths)
  here : field ≡ get_or fields n 0
  wide : width ≡ length (get_or (consecutive 0 widths) n [])

turn : (c : After-from) → Turn c.args.fields.now c.args.self.widths.now c.from.result c.in-Some.width.now (length c.loop-field.yielded)
turn c =
    let t = zip_turn c.args.fields.now c.args.self.widths.now c.loop-field.yielded c.into_iter-field-iterator.result _ c.next.new.self _ (cc) (cc) c.loop-field.yielded_by _ c.in-Some.is c.next.ensures.steps in
    record {
      within = omega (arith, t.1, length-consecutive 0 c.args.self.widths.now);
      here = c.from.ensures ∙ t.2 0;
      wide = t.3 0 ∙ sym (width_consecutive 0 c.args.self.widths.now _);
    }

pub loop-field-init : goal.loop-field-init
loop-field-init c = joined_start _ _

pub overflow_add-word : goal.overflow_add-word
overflow_add-word c =
    let t = turn c in
    rw t.here (record { fits = joined_lt _ _ _ _ c.loop-field.invariant c.requires (widths_order _ c.args.self.ruled) t.within t.wide })

pub loop-field-preserved : goal.loop-field-preserved
loop-field-preserved c =
    let t = turn c in
    rw (t.here, length_push c.loop-field.yielded (c.in-Some.field, c.in-Some.width))
    (joined_step _ _ _ _ c.loop-field.invariant c.requires (widths_order _ c.args.self.ruled) t.within t.wide)

pub returns : goal.returns
returns c =
    let t = zip_end c.args.fields.now c.args.self.widths.now c.loop-field.yielded c.into_iter-field-iterator.result _ c.next.new.self _ (cc) (cc) c.loop-field.yielded_by c.in-None.is c.next.ensures.steps in
    joined_end _ _ _ _ c.loop-field.invariant c.requires (omega (arith, t, c.requires.as_many, length-consecutive 0 c.args.self.widths.now))
