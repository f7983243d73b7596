-- Each check leads to its answer.
use Rattle.std.proofs.Common.{◌≡◌, false, length, ◌<◌, ◌≤◌, ◌∙◌, rules}
use Rattle.std.proofs.lemmas.Result.{err_from_is_err_and}
use Rattle.refusal.specs.Report.{refusal}
use Rattle.refusal.specs.declared.Reason.TheVariants.{WrongMode}
use Rattle.fields.specs.Table.{consecutive}
use Rattle.fields.specs.Modes.{is_mode}
use Rattle.fields.specs.Widths.{HasWidths}
use Rattle.fields.specs.RoundTrip.{Fitting}
use Rattle.fields.proofs.Answers.{pack_wrong_mode, pack_wrong_length, pack_too_large, pack_too_short, pack_accepted}
use Rattle.fields.proofs.Modes.{widths_order}
use Rattle.fields.proofs.Packing.{word_body}
use Rattle.fields.proofs.pack.Goals as goal

pub returns-in_err-mode : goal.returns-in_err-mode
returns-in_err-mode c =
    let none : is_mode c.args.mode ≡ false = search rules in
    let why : c.in_err-mode.field-0.0 ≡ refusal WrongMode 0 = search rules in
    let p = err_from_is_err_and c.from_residual.result c.from_residual.ensures.1 in
    rw (p.1, p.2, why) (pack_wrong_mode _ _ _ none)

pub returns-then-fields-count : goal.returns-then-fields-count
returns-then-fields-count c =
    let h : HasWidths c.args.mode c.in_ok-mode.mode.widths.now = search rules in
    rw c.at.ensures (pack_wrong_length _ _ _ h c.if-fields-count.true)

pub returns-in-Some : goal.returns-in-Some
returns-in-Some c =
    let h : HasWidths c.args.mode c.in_ok-mode.mode.widths.now = search rules in
    rw c.at-in-Some.ensures (pack_too_large _ _ _ h c.if-fields-count.false c.in-Some.ensures.0 c.in-Some.ensures.1)

pub returns-in_default-first_chunk_mut : goal.returns-in_default-first_chunk_mut
returns-in_default-first_chunk_mut c =
    let h : HasWidths c.args.mode c.in_ok-mode.mode.widths.now = search rules in
    let fit : Fitting (consecutive 0 c.in_ok-mode.mode.widths.now) c.args.fields.now = search rules in
    let short : length c.args.out.now < 7 = search rules in
    rw c.at-in_default-first_chunk_mut.ensures (pack_too_short _ _ _ h c.if-fields-count.false fit short)

pub returns : goal.returns
returns c =
    let h : HasWidths c.args.mode c.in_ok-mode.mode.widths.now = search rules in
    let fit : Fitting (consecutive 0 c.in_ok-mode.mode.widths.now) c.args.fields.now = search rules in
    let room : 7 ≤ length c.args.out.now = search rules in
    pack_accepted _ _ _ h c.if-fields-count.false fit room
    (c.put_octets.ensures ∙ word_body _ _ (widths_order _ c.in_ok-mode.mode.ruled) fit.as_many c.word_of.ensures)
