use Rattle.std.proofs.Common.{◌≡◌, length, arith}
use Rattle.std.specs.Prelude.{reverse}
use Rattle.rls_steps.specs.Forgetting.{fitting}
use Rattle.rls_steps.proofs.Newest.{read_back, fit_more, fit_last, fit_all}
use Rattle.rls_steps.proofs.dropping.fitting.Goals as goal

pub returns-then-room-size-clause-fitting : goal.returns-then-room-size-clause-fitting
returns-then-room-size-clause-fitting c =
    let xs = c.args.steps.now.items in
    let n : c.len-in-steps.result ≡ length xs = omega arith in
    let x = c.index.result.now in
    fit_last c.args.most c.steps.room c.steps.fit c.size_of-size.result (fitting c.args.most c.args.chars (reverse xs)) (reverse xs) x (read_back xs c.len-in-steps.result c.steps.fit x n (omega (arith, c.if-fit-len.true)) c.index.ensures) c.size_of-size.ensures.size c.if-room-size.true c.steps.invariant.same

pub steps-preserved : goal.steps-preserved
steps-preserved c =
    let xs = c.args.steps.now.items in
    let n : c.len-in-steps.result ≡ length xs = omega arith in
    let x = c.index.result.now in
    record {
      few = omega (arith, c.steps-test.true);
      within = omega (arith, c.if-fit-len.true);
      same = fit_more c.args.most c.steps.room c.steps.fit c.size_of-size.result (fitting c.args.most c.args.chars (reverse xs)) (reverse xs) x (omega (arith, c.steps-test.true)) (read_back xs c.len-in-steps.result c.steps.fit x n (omega (arith, c.if-fit-len.true)) c.index.ensures) c.size_of-size.ensures.size c.if-room-size.false c.steps.invariant.same;
    }

pub returns-else-fit-len-clause-fitting : goal.returns-else-fit-len-clause-fitting
returns-else-fit-len-clause-fitting c =
    let xs = c.args.steps.now.items in
    fit_all c.args.most c.steps.room c.steps.fit (fitting c.args.most c.args.chars (reverse xs)) xs (omega (arith, c.if-fit-len.false)) c.steps.invariant.same
