-- `views::locate` gives the location of the row in a legal session, or none.
use Rattle.std.proofs.Common.{arith}
use Rattle.std.proofs.lemmas.Grind.{common_steps}
use Rattle.octets.specs.Octet.{Octets}
use Rattle.views.proofs.RowLocation.{locates_in, case_refused, case_holds, case_past}
use Rattle.views.proofs.locate.Goals as goal

pub returns-in_err-summary : goal.returns-in_err-summary
returns-in_err-summary c =
    let octets : Octets c.args.payload.now = λ i. (c.type_inv.payload i).fits in
    rw c.from_residual-in_err-summary.ensures (case_refused _ _ _ octets c.walk.ensures (grind (arith, common_steps)) c.in_err-summary.ensures.value)

pub returns-then-summary-row : goal.returns-then-summary-row
returns-then-summary-row c =
    let octets : Octets c.args.payload.now = λ i. (c.type_inv.payload i).fits in
    case_past _ _ _ octets c.walk.ensures (grind (arith, common_steps)) _ c.in_ok-summary.ensures.value c.if-summary-row.true

pub step_back-requires : goal.step_back-requires
step_back-requires c =
    let octets : Octets c.args.payload.now = λ i. (c.type_inv.payload i).fits in
    (case_holds c.args.session _ c.args.row octets c.walk.ensures (grind (arith, common_steps)) _ c.in_ok-summary.ensures.value, c.if-summary-row.false)

pub returns : goal.returns
returns c =
    let octets : Octets c.args.payload.now = λ i. (c.type_inv.payload i).fits in
    locates_in _ _ _ octets c.walk.ensures (grind (arith, common_steps)) c.step_back.ensures
