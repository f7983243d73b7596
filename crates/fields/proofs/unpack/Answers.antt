-- Each check leads to its answer.
use Rattle.std.proofs.Common.{◌≡◌, false, length, rules}
use Rattle.std.specs.Array.{IsWholeChunk}
use Rattle.std.proofs.lemmas.Result.{err_from_is_err_and}
use Rattle.refusal.specs.Report.{refusal}
use Rattle.refusal.specs.declared.Reason.TheVariants.{WrongMode, WrongLength}
use Rattle.fields.specs.Modes.{is_mode}
use Rattle.fields.specs.Widths.{HasWidths}
use Rattle.fields.proofs.Answers.{unpack_wrong_mode, unpack_wrong_length, unpack_reserved_bits, unpack_too_short, unpack_accepted}
use Rattle.fields.proofs.unpack.Goals as goal

pub returns-in_err-mode : goal.returns-in_err-mode
returns-in_err-mode c =
    let none : is_mode c.args.mode ≡ false = search rules in
    let why : c.in_err-mode.field-0.0 ≡ refusal WrongMode 0 = search rules in
    let p = err_from_is_err_and c.from_residual.result c.from_residual.ensures.1 in
    rw (p.1, p.2, why) (unpack_wrong_mode _ _ _ none)

pub returns-in_err-body : goal.returns-in_err-body
returns-in_err-body c =
    let h : HasWidths c.args.mode c.in_ok-mode.mode.widths.now = search rules in
    let long : length c.args.body.now ≡ 7 → ⊥ = search rules in
    let why : c.in_err-body.field-0.0 ≡ refusal WrongLength 7 = search rules in
    let p = err_from_is_err_and c.from_residual-in_err-body.result c.from_residual-in_err-body.ensures.1 in
    rw (p.1, p.2, why) (unpack_wrong_length _ _ _ h long)

pub returns-then-body-gt-BODY_END : goal.returns-then-body-gt-BODY_END
returns-then-body-gt-BODY_END c =
    let h : HasWidths c.args.mode c.in_ok-mode.mode.widths.now = search rules in
    let b : IsWholeChunk c.args.body.now c.in_ok-body.body.now 7 = search rules in
    rw c.at-then-body-gt-BODY_END.ensures (unpack_reserved_bits _ _ _ h b.long (rw b.same at c.if-body-gt-BODY_END.true))

pub returns-then-fields-count : goal.returns-then-fields-count
returns-then-fields-count c =
    let h : HasWidths c.args.mode c.in_ok-mode.mode.widths.now = search rules in
    let b : IsWholeChunk c.args.body.now c.in_ok-body.body.now 7 = search rules in
    rw c.at-then-fields-count.ensures (unpack_too_short _ _ _ h b.long (rw b.same at c.if-body-gt-BODY_END.false) c.if-fields-count.true)

pub returns : goal.returns
returns c =
    let h : HasWidths c.args.mode c.in_ok-mode.mode.widths.now = search rules in
    let b : IsWholeChunk c.args.body.now c.in_ok-body.body.now 7 = search rules in
    unpack_accepted _ _ _ h b.long (rw b.same at c.if-body-gt-BODY_END.false) c.if-fields-count.false (rw b.same at c.take_fields.ensures)
