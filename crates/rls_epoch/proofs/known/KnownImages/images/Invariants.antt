use Rattle.std.proofs.Common.{◌≡◌, take, map}
use Rattle.rls_rename.specs.Tree.{translate}
use Rattle.rls_runs.specs.Runs.{runs_of, idents_of}
use Rattle.rls_epoch.specs.Seen.{nodes_of}
use Rattle.rls_epoch.proofs.known.KnownImages.images.Given as goal

-- those of the runs before the index
abbrev pub invariant-loop-run : goal.invariant-loop-run
invariant-loop-run l = l.images ≡ map (translate (nodes_of l.nodes) l.from l.to) (idents_of (take l.run-index (runs_of l.ids)))
