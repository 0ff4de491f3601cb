use Rattle.std.proofs.Common.{◌≤◌}
use Rattle.rls_epoch.specs.Jumps.{AreLevel, IsUpFrom}
use Rattle.rls_epoch.proofs.nodes.Nodes.siblings_above.Given as goal

-- both are on the way up, at one depth
abbrev pub invariant-loop-next : goal.invariant-loop-next
invariant-loop-next l = record {
  left_within : l.left ≤ l.a;
  right_within : l.right ≤ l.b;
  level : AreLevel l.self.top l.self.placed l.left l.right;
  left_above : IsUpFrom l.self.top l.self.placed l.a l.left;
  right_above : IsUpFrom l.self.top l.self.placed l.b l.right;
}

abbrev pub decreases-loop-next : goal.decreases-loop-next
decreases-loop-next l = l.left
