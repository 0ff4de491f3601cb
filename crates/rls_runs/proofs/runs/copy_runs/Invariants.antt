use Rattle.std.proofs.Common.{◌≡◌, take}
use Rattle.rls_runs.proofs.runs.copy_runs.Given as goal

-- the runs so far
abbrev pub invariant-loop-run : goal.invariant-loop-run
invariant-loop-run l = l.copy.items ≡ take l.run-index l.runs
