use Rattle.std.proofs.Common.{◌≤◌}
use Rattle.rls_epoch.specs.Jumps.{depth_at, IsUpFrom}
use Rattle.rls_epoch.proofs.nodes.Nodes.ancestor.Given as goal

-- on the way up, and deep enough
abbrev pub invariant-loop-at : goal.invariant-loop-at
invariant-loop-at l = record {
  within : l.at ≤ l.number;
  deep : l.depth ≤ depth_at l.self.top l.self.placed l.at;
  above : IsUpFrom l.self.top l.self.placed l.number l.at;
}

abbrev pub decreases-loop-at : goal.decreases-loop-at
decreases-loop-at l = l.at
