use Rattle.std.proofs.Common.{◌≡◌, take}
use Rattle.rls_runs.specs.Runs.{runs_of}
use Rattle.test_replicas.proofs.documents.runs_in.Given as goal

-- the runs so far
abbrev pub invariant-loop-run : goal.invariant-loop-run
invariant-loop-run l = l.list ≡ take l.run-index (runs_of l.idents)
