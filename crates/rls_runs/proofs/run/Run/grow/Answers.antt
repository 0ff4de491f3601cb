use Rattle.std.proofs.Common.{◌≡◌, ◌+◌, ap, arith}
use Rattle.rls_runs.proofs.RunEnds.{run_short}
use Rattle.rls_runs.proofs.run.Run.grow.Goals as goal

pub overflow_add-self : goal.overflow_add-self
overflow_add-self c =
    let short = run_short (c.args.self.now.0, c.args.self.now.1 + c.args.by) c.requires.fits in
    let e : c.self.inside.len ≡ c.args.self.now.1 = ap (λ r. r.1) c.self.view_is in
    omega arith
