-- `reader::read` keeps its promise at each of its returns.
use Rattle.octets.specs.Octet.{Octets}
use Rattle.std.proofs.lemmas.Result.{err_from_is_err_and}
use Rattle.reader.proofs.ReadCases.{case_refused, case_few_numbers, case_few_octets, case_fillable, case_read}
use Rattle.reader.proofs.read.Goals as goal

pub returns-in_err-summary : goal.returns-in_err-summary
returns-in_err-summary c =
    let octets : Octets c.args.payload.now = λ i. (c.type_inv.payload i).fits in
    let p = err_from_is_err_and c.from_residual-in_err-summary.result c.from_residual-in_err-summary.ensures.1 in
    rw (p.1, p.2) (case_refused _ _ c.in_ok-framing.ensures _ _ _ octets _ c.in_err-summary.ensures)

pub returns-then-rows-summary : goal.returns-then-rows-summary
returns-then-rows-summary c =
    let octets : Octets c.args.payload.now = λ i. (c.type_inv.payload i).fits in
    rw c.at.ensures (case_few_numbers _ _ c.in_ok-framing.ensures _ _ _ octets _ c.in_ok-summary.ensures c.if-rows-summary.true)

pub returns-then-bodies-summary : goal.returns-then-bodies-summary
returns-then-bodies-summary c =
    let octets : Octets c.args.payload.now = λ i. (c.type_inv.payload i).fits in
    rw c.at-then-bodies-summary.ensures (case_few_octets _ _ c.in_ok-framing.ensures _ _ _ octets _ c.in_ok-summary.ensures c.if-rows-summary.false c.if-bodies-summary.true)

pub fill-requires : goal.fill-requires
fill-requires c =
    let octets : Octets c.args.payload.now = λ i. (c.type_inv.payload i).fits in
    case_fillable _ _ c.in_ok-framing.ensures _ c.args.rows.now c.args.bodies.now octets _ c.in_ok-summary.ensures c.if-rows-summary.false c.if-bodies-summary.false

pub returns : goal.returns
returns c =
    let octets : Octets c.args.payload.now = λ i. (c.type_inv.payload i).fits in
    case_read _ _ c.in_ok-framing.ensures _ _ _ octets _ c.in_ok-summary.ensures c.if-rows-summary.false c.if-bodies-summary.false c.fill.ensures.rows c.fill.ensures.bodies
