use Rattle.std.proofs.Common.{◌≡◌, take, map}
use Rattle.rls_rename.specs.Renaming.{forward}
use Rattle.rls_runs.specs.Runs.{runs_of, idents_of}
use Rattle.rls_epoch.proofs.images.runs_renamed.Given as goal

-- those in front of the index were renamed
abbrev pub invariant-loop-run : goal.invariant-loop-run
invariant-loop-run l = l.renamed ≡ map (forward l.renaming) (idents_of (take l.run-index (runs_of l.ids)))
