use Rattle.std.proofs.Common.{◌≡◌, drop, map}
use Rattle.std.specs.List.{list_all}
use Rattle.rls_runs.specs.Runs.{is_run}
use Rattle.rls_model.specs.declared.parts.TextRun.{TextRun}
use Rattle.rls_replica.proofs.restoring.runs_fit.Given as goal

-- where what is left fits, all do
abbrev pub invariant-loop-entry : goal.invariant-loop-entry
invariant-loop-entry l = list_all is_run (map (λ (r : TextRun). r.run) (drop l.entry-index l.runs)) ≡ list_all is_run (map (λ (r : TextRun). r.run) l.runs)
