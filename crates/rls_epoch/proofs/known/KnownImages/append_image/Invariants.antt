use Rattle.std.proofs.Common.{◌≡◌, ◌≤◌, ◌-◌, ◌++◌, map}
use Rattle.rls_rename.specs.Tree.{translate}
use Rattle.rls_runs.specs.Runs.{run_idents}
use Rattle.rls_epoch.specs.Seen.{nodes_of}
use Rattle.rls_epoch.proofs.known.KnownImages.append_image.Given as goal

-- the first identifiers were put there
abbrev pub invariant-loop-done : goal.invariant-loop-done
invariant-loop-done l = record {
  in_range : l.done ≤ l.len;
  images : l.images ≡ l.fn.images ++ map (translate (nodes_of l.nodes) l.from l.to) (run_idents l.run.0 l.done);
}

abbrev pub decreases-loop-done : goal.decreases-loop-done
decreases-loop-done l = l.len - l.done
