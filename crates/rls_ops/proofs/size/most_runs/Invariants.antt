use Rattle.std.proofs.Common.{◌≡◌, ◌+◌, ◌-◌, ◌^◌, min, take, sum_by}
use Rattle.rls_ops.specs.Sizes.{most_run}
use Rattle.rls_ops.proofs.size.most_runs.Given as goal

-- the runs so far
abbrev pub invariant-loop-run : goal.invariant-loop-run
invariant-loop-run l = l.total ≡ min (4 + sum_by most_run (take l.run-index l.runs)) (2 ^ 64 - 1)
