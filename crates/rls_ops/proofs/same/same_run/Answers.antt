use Rattle.std.proofs.Common.{sym, ◌∙◌}
use Rattle.rls_ops.proofs.SameRuns.{run_tested}
use Rattle.rls_ops.proofs.same.same_run.Goals as goal

pub returns-then-len : goal.returns-then-len
returns-then-len c =
    record { same = run_tested c.args.run.now c.args.other.now c.same_ident.result (sym c.len.ensures.len ∙ c.if-len.true ∙ c.len-2.ensures.len) (rw (← c.first.ensures.first, ← c.first-then-len.ensures.first) c.same_ident.ensures.same) }
