use Rattle.std.proofs.Common.{◌≡◌, take, map}
use Rattle.rls_runs.specs.Runs.{idents_of}
use Rattle.rls_epoch.specs.Ways.{step_map}
use Rattle.rls_epoch.proofs.nodes.Nodes.runs_moved.Given as goal

-- those in front of the index were moved
abbrev pub invariant-loop-run : goal.invariant-loop-run
invariant-loop-run l = l.moved ≡ map (step_map l.self.placed l.step) (idents_of (take l.run-index l.runs))
