use Rattle.std.proofs.Common.{ap, ◌∙◌}
use Rattle.rls_ident.specs.Identifiers.{follows}
use Rattle.rls_runs.specs.Runs.{run_last}
use Rattle.rls_runs.proofs.RunEnds.{touches_at}
use Rattle.rls_runs.proofs.run.Run.touches.Goals as goal

pub returns : goal.returns
returns c = record { touches = c.follows_by.ensures.follows ∙ touches_at (c.self.inside.first, c.self.inside.len) c.args.id.now c.self.invariant ∙ ap (λ r. follows c.args.id.now (run_last r)) c.self.view_is }
