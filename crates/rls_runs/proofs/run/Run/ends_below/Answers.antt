use Rattle.std.proofs.Common.{◌≡◌, true, ap, ◌∙◌, subst}
use Rattle.std.specs.Prelude.{◌==◌}
use Rattle.rls_runs.specs.Runs.{is_run}
use Rattle.rls_runs.proofs.RunEnds.{says_all, ends_below}
use Rattle.rls_runs.proofs.run.Run.ends_below.Goals as goal

pub returns-in-Ok : goal.returns-in-Ok
returns-in-Ok c =
    let good = subst (λ r. is_run r ≡ true) c.self.view_is c.self.invariant in
    record { below = ap (says_all c.args.self.now.1) c.in-Ok.ensures.find ∙ ends_below c.args.self.now c.args.id.now good }

pub returns-in-Err : goal.returns-in-Err
returns-in-Err c =
    let good = subst (λ r. is_run r ≡ true) c.self.view_is c.self.invariant in
    let len = ap (λ r. r.1) c.self.view_is in
    record { below = ap (λ n. c.in-Err.below == n) len ∙ ap (says_all c.args.self.now.1) c.in-Err.ensures.find ∙ ends_below c.args.self.now c.args.id.now good }
