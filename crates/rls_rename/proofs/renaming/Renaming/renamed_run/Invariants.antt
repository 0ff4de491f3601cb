use Rattle.std.proofs.Common.{◌≡◌, ◌-◌, ◌<◌, ◌≤◌, map}
use Rattle.rls_runs.specs.Runs.{run_idents, idents_of}
use Rattle.rls_rename.specs.Ways.{renamed}
use Rattle.rls_rename.proofs.renaming.Renaming.renamed_run.Given as goal

-- so many identifiers of the run, from the first one on, were renamed
abbrev pub invariant-loop-done : goal.invariant-loop-done
invariant-loop-done l = record {
  some : 0 < l.done;
  within : l.done ≤ l.run.1;
  idents : idents_of l.image ≡ map (renamed l.way l.self) (run_idents l.run.0 l.done);
}

abbrev pub decreases-loop-done : goal.decreases-loop-done
decreases-loop-done l = l.run.1 - l.done
