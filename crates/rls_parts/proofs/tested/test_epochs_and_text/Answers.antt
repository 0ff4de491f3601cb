use Rattle.std.proofs.Common.{◌∙◌, sym}
use Rattle.rls_parts.proofs.InOrder.{by_3, by_4, tree_ok, tree_err, told}
use Rattle.rls_parts.proofs.tested.test_epochs_and_text.Goals as goal

pub returns-in-Err-clause-broken : goal.returns-in-Err-clause-broken
returns-in-Err-clause-broken c rule index e =
    let p = c.args.parts.now in
    told p 3 c.in-Err.index rule index e (by_3 p c.in-Err.index c.requires.rows c.requires.stems (tree_err p c.in_ok-epochs.field-0 c.in-Err.index c.in_ok-epochs.ensures.tested c.in-Err.is))

pub returns-in-Some-clause-broken : goal.returns-in-Some-clause-broken
returns-in-Some-clause-broken c rule index e =
    let p = c.args.parts.now in
    told p 4 c.in-Some.index rule index e
    (by_4 p c.in-Some.index c.requires.rows c.requires.stems (tree_ok p c.in_ok-epochs.field-0 c.in-Ok.epochs c.in_ok-epochs.ensures.tested c.in-Ok.is).0 (sym c.in_ok-index.ensures.fault ∙ c.in-Some.is))
