-- `leb128::step` judges one octet of a number.
use Rattle.std.proofs.Common.{◌≤◌, ◌∙◌, arith}
use Rattle.leb128.proofs.Steps.{weight_lem, product_fits, sum_fits, within, worth, last_zero, last_either, more_either}
use Rattle.leb128.proofs.Steps.{steps, step_many, step_full, step_large, step_last, step_more}
use Rattle.leb128.proofs.step.Goals as goal
use Rattle.leb128.proofs.step.Goals.{else-octet-eq0-via-then-octet-eq0+else-groups-gt0, else-octet-eq0-via-else-octet-eq0}
use Rattle.leb128.proofs.step.Goals.{then-groups-ge-MOST_GROUPS-via-then-groups-ge-MOST_GROUPS, then-groups-ge-MOST_GROUPS-via-else-groups-ge-MOST_GROUPS+then-limits-groups}

pub returns-then-groups-ge-MOST_GROUPS : goal.returns-then-groups-ge-MOST_GROUPS
returns-then-groups-ge-MOST_GROUPS c =
    elim c.then-groups-ge-MOST_GROUPS.branch [
      | then-groups-ge-MOST_GROUPS-via-then-groups-ge-MOST_GROUPS w ↦ steps _ _ _ _ _ (step_many _ _ _ _ _ w.if-groups-ge-MOST_GROUPS.true)
      | then-groups-ge-MOST_GROUPS-via-else-groups-ge-MOST_GROUPS+then-limits-groups w ↦ steps _ _ _ _ _ (step_full _ _ _ _ _ w.if-limits-groups.true)
    ]

pub returns-then-weight-value : goal.returns-then-weight-value
returns-then-weight-value c =
    let few = c.if-groups-ge-MOST_GROUPS.false in
    steps _ _ _ _ _ (step_large _ _ _ _ _ few c.if-limits-groups.false (omega (arith, weight_lem _ few, c.if-weight-value.true)))

pub overflow_mul-total : goal.overflow_mul-total
overflow_mul-total c =
    record { fits = product_fits _ _ _ c.if-groups-ge-MOST_GROUPS.false c.if-weight-value.false c.from.ensures }

pub overflow_add-total : goal.overflow_add-total
overflow_add-total c =
    record { fits = sum_fits _ _ _ c.if-groups-ge-MOST_GROUPS.false c.if-weight-value.false c.from.ensures }

pub returns-then-octet-ge128 : goal.returns-then-octet-ge128
returns-then-octet-ge128 c =
    let few = c.if-groups-ge-MOST_GROUPS.false in
    let h = c.if-weight-value.false in
    steps _ _ _ _ _
    (c.then_some.ensures
    ∙ more_either _ _ _ _ (worth _ _ _ few h c.from.ensures (omega arith))
    ∙ step_more _ _ _ _ _ (within _ _ _ few h c.from.ensures) c.if-limits-groups.false c.if-octet-ge128.true)

pub returns-then-groups-gt0 : goal.returns-then-groups-gt0
returns-then-groups-gt0 c =
    let few = c.if-groups-ge-MOST_GROUPS.false in
    steps _ _ _ _ _
    (last_zero _ _ _ _ c.if-octet-eq0.true c.if-groups-gt0.true
    ∙ step_last _ _ _ _ _ (within _ _ _ few c.if-weight-value.false c.from.ensures) c.if-limits-groups.false c.if-octet-ge128.false)

pub returns : goal.returns
returns c =
    let few = c.if-groups-ge-MOST_GROUPS.false in
    let h = c.if-weight-value.false in
    let shortest : 1 ≤ c.args.groups → 1 ≤ c.args.octet =
    elim c.else-octet-eq0.branch [
      | else-octet-eq0-via-then-octet-eq0+else-groups-gt0 w ↦ λ k. absurd (omega arith)
      | else-octet-eq0-via-else-octet-eq0 w ↦ λ k. omega arith
    ] in
    steps _ _ _ _ _
    (c.then_some-2.ensures
    ∙ last_either _ _ _ _ shortest (worth _ _ _ few h c.from.ensures (omega arith))
    ∙ step_last _ _ _ _ _ (within _ _ _ few h c.from.ensures) c.if-limits-groups.false c.if-octet-ge128.false)
