use Rattle.rls_ops.proofs.SameRuns.{runs_tested}
use Rattle.rls_ops.proofs.same.same_idents.Goals as goal

pub returns : goal.returns
returns c =
    let s = rw (c.as_slice.ensures.runs, c.as_slice-2.ensures.runs) at c.same_runs.ensures.same in
    record { same = runs_tested c.args.idents.now c.args.others.now c.same_runs.result s.0 s.1 }
