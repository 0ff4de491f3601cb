use Rattle.std.proofs.Common.{◌≡◌, take}
use Rattle.rls_runs.specs.Runs.{runs_of}
use Rattle.rls_epoch.proofs.images.maximal.Given as goal

-- those in front of the index were copied
abbrev pub invariant-loop-run : goal.invariant-loop-run
invariant-loop-run l = l.list ≡ take l.run-index (runs_of l.ids)
