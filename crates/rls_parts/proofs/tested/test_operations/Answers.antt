use Rattle.std.proofs.Common.{◌∙◌, sym}
use Rattle.rls_parts.proofs.InOrder.{Four, by_5, by_6, by_7, by_8, by_none, log_ok, log_err, told}
use Rattle.rls_parts.proofs.tested.test_operations.Goals as goal

pub returns-in-Err-clause-broken : goal.returns-in-Err-clause-broken
returns-in-Err-clause-broken c rule index e =
    let p = c.args.parts.now in
    let four : Four p = record { rows = c.requires.rows; stems = c.requires.stems; epochs = c.requires.rule; text = c.requires.text } in
    told p 5 c.in-Err.index rule index e (by_5 p c.in-Err.index four (log_err p c.in_ok-index.field-0 c.in-Err.index c.in_ok-index.ensures.tested c.in-Err.is))

pub returns-in-Ok-false-clause-broken : goal.returns-in-Ok-false-clause-broken
returns-in-Ok-false-clause-broken c rule index e =
    let p = c.args.parts.now in
    let four : Four p = record { rows = c.requires.rows; stems = c.requires.stems; epochs = c.requires.rule; text = c.requires.text } in
    let log = log_ok p c.in_ok-index.field-0 c.in-Ok-false.field-0 c.in_ok-index.ensures.tested c.in-Ok-false.is in
    told p 6 0 rule index e (by_6 p four log.0 (sym c.in-Ok-false.field-0-test ∙ log.1))

pub returns-then-not-branch-clause-broken : goal.returns-then-not-branch-clause-broken
returns-then-not-branch-clause-broken c rule index e =
    let p = c.args.parts.now in
    let four : Four p = record { rows = c.requires.rows; stems = c.requires.stems; epochs = c.requires.rule; text = c.requires.text } in
    let log = log_ok p c.in_ok-index.field-0 c.in-Ok-true.field-0 c.in_ok-index.ensures.tested c.in-Ok-true.is in
    told p 7 0 rule index e (by_7 p four log.0 (sym c.in-Ok-true.field-0-test ∙ log.1) (sym c.if-not-branch.true ∙ c.in_ok-are_retained.ensures.retained))

pub returns-in-Some-clause-broken : goal.returns-in-Some-clause-broken
returns-in-Some-clause-broken c rule index e =
    let p = c.args.parts.now in
    let four : Four p = record { rows = c.requires.rows; stems = c.requires.stems; epochs = c.requires.rule; text = c.requires.text } in
    let log = log_ok p c.in_ok-index.field-0 c.in-Ok-true.field-0 c.in_ok-index.ensures.tested c.in-Ok-true.is in
    told p 8 c.in-Some.index rule index e
    (by_8 p c.in-Some.index four log.0 (sym c.in-Ok-true.field-0-test ∙ log.1) (sym c.if-not-branch.false ∙ c.in_ok-are_retained.ensures.retained) (sym c.in-Some.ensures.fault))

pub returns-clause-unbroken : goal.returns-clause-unbroken
returns-clause-unbroken c =
    let p = c.args.parts.now in
    let four : Four p = record { rows = c.requires.rows; stems = c.requires.stems; epochs = c.requires.rule; text = c.requires.text } in
    let log = log_ok p c.in_ok-index.field-0 c.in-Ok-true.field-0 c.in_ok-index.ensures.tested c.in-Ok-true.is in
    by_none p four log.0 (sym c.in-Ok-true.field-0-test ∙ log.1) (sym c.if-not-branch.false ∙ c.in_ok-are_retained.ensures.retained) (sym c.in_default.ensures.fault)
