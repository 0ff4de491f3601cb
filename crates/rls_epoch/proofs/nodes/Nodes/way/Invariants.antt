use Rattle.std.proofs.Common.{◌+◌, ◌≤◌, length}
use Rattle.std.specs.Prelude.{reverse}
use Rattle.rls_epoch.specs.Ways.{Leads}
use Rattle.rls_epoch.proofs.nodes.Nodes.way.Given as goal

-- a way up from the one, and a way down to the other
abbrev pub invariant-loop-left : goal.invariant-loop-left
invariant-loop-left l = record {
  left_within : l.left ≤ length l.self.placed;
  right_within : l.right ≤ length l.self.placed;
  up : Leads l.self.placed l.from l.up.items l.left;
  down : Leads l.self.placed l.right (reverse l.down.items) l.to;
}

abbrev pub decreases-loop-left : goal.decreases-loop-left
decreases-loop-left l = l.left + l.right
