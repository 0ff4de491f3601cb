use Rattle.std.proofs.Common.{arith}
use Rattle.rls_runs.proofs.RunLists.{agree_on, rest_within}
use Rattle.rls_runs.proofs.runs.Runs.count_common.Goals as goal

pub returns-clause-within : goal.returns-clause-within
returns-clause-within c =
    omega (arith, rest_within c.args.self.now c.args.i c.locate-start.result.1 c.locate-start.result.0.now.1 c.locate-start.result.0.now.0 c.locate-start.ensures.within c.locate-start.ensures.idents)

pub returns-clause-other_within : goal.returns-clause-other_within
returns-clause-other_within c =
    omega (arith, rest_within c.args.others.now c.args.j c.locate-from.result.1 c.locate-from.result.0.now.1 c.locate-from.result.0.now.0 c.locate-from.ensures.within c.locate-from.ensures.idents)

pub returns-clause-same : goal.returns-clause-same
returns-clause-same c =
    agree_on c.args.self.now c.args.others.now c.args.i c.args.j c.locate-start.result.1 c.locate-from.result.1 c.min.result c.locate-start.result.0.now.0 c.locate-from.result.0.now.0 c.requires.same
    (λ k l. c.locate-start.ensures.idents k (omega (arith, l))) (λ k l. c.locate-from.ensures.idents k (omega (arith, l)))
