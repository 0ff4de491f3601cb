use Rattle.std.proofs.Common.{◌∙◌, take, drop, ap, arith}
use Rattle.rls_runs.specs.Entries.{Entries, idents_in}
use Rattle.rls_seen.specs.Seen.{idents_over}
use Rattle.rls_steps.proofs.Rows.{stand_on}
use Rattle.rls_steps.proofs.finding.standing.Goals as goal

pub returns-clause-there : goal.returns-clause-there
returns-clause-there c =
    let xs = idents_over c.args.replica.now in
    let e = c.in_ok-there.ensures.runs ∙ ap (λ (es : Entries). take c.min-most.result (drop c.args.at (idents_in es))) c.tree-2.ensures.text in
    let n = c.min.ensures in
    stand_on xs c.in_ok-there.there c.args.run.now.0 c.locate-from.result.0.now.0 c.args.at c.min-most.result c.locate-from.result.1 c.min.result e c.requires.at (λ k h. c.locate-from.ensures.idents k (omega (arith, h, n)))
