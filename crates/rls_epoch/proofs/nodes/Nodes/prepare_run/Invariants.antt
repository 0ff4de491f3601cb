use Rattle.std.proofs.Common.{◌≡◌, ◌≤◌, ◌-◌}
use Rattle.rls_epoch.proofs.nodes.Nodes.prepare_run.Given as goal

-- nothing that is seen changes
abbrev pub invariant-loop-done : goal.invariant-loop-done
invariant-loop-done l = record {
  same : l.self ≡ l.fn.self;
  in_range : l.done ≤ l.len;
}

abbrev pub decreases-loop-done : goal.decreases-loop-done
decreases-loop-done l = l.len - l.done
