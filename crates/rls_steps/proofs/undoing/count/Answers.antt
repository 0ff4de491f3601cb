use Rattle.std.proofs.Common.{arith}
use Rattle.rls_ident.proofs.Positions.{get_of}
use Rattle.rls_steps.proofs.Grouping.{count_next, count_all}
use Rattle.rls_steps.proofs.undoing.count.Goals as goal

pub steps-preserved : goal.steps-preserved
steps-preserved c =
    let xs = c.args.steps.now.items in
    let v = c.steps.invariant in
    let n = c.opens-count.ensures in
    let g = get_of xs c.steps.i (omega (arith, c.steps-test.true)) in
    let e = count_next xs c.steps.i g.0 c.opens-count.result g.1 (n.opens g.0 g.1) in
    record {
      few = omega (arith, v.few, n.few);
      same = omega (arith, v.same, e);
    }

pub returns : goal.returns
returns c =
    let e = count_all c.args.steps.now.items c.steps.i (omega (arith, c.steps-test.false)) in
    record { count = omega (arith, c.steps.invariant.same, e) }
