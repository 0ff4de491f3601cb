use Rattle.std.proofs.Common.{sym}
use Rattle.rls_runs.specs.Runs.{run_idents}
use Rattle.rls_runs.proofs.Gaps.{read_err, read_ok}
use Rattle.rls_steps.proofs.finding.count_less.Goals as goal

pub returns-in-Ok : goal.returns-in-Ok
returns-in-Ok c = record { less = sym (read_ok (run_idents c.args.run.now.0 c.args.run.now.1) c.args.ident.now c.in-Ok.at (sym c.in-Ok.ensures.find)).1 }

pub returns-in-Err : goal.returns-in-Err
returns-in-Err c = record { less = sym (read_err (run_idents c.args.run.now.0 c.args.run.now.1) c.args.ident.now c.in-Err.below (sym c.in-Err.ensures.find)).1 }
