use Rattle.std.proofs.Common.{sym}
use Rattle.rls_parts.proofs.InOrder.{by_1, by_2, told}
use Rattle.rls_parts.proofs.tested.test_rows_and_stems.Goals as goal

pub returns-in-Some-clause-broken : goal.returns-in-Some-clause-broken
returns-in-Some-clause-broken c rule index e =
    let p = c.args.parts.now in
    told p 1 c.in-Some.index rule index e (by_1 p c.in-Some.index (sym c.in-Some.ensures.fault))

pub returns-in-Some-stem_fault-clause-broken : goal.returns-in-Some-stem_fault-clause-broken
returns-in-Some-stem_fault-clause-broken c rule index e =
    let p = c.args.parts.now in
    told p 2 c.in-Some-stem_fault.index rule index e (by_2 p c.in-Some-stem_fault.index (sym c.in_default.ensures.fault) (sym c.in-Some-stem_fault.ensures.fault))
