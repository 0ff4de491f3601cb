use Rattle.std.proofs.Common.{◌≡◌, ◌<◌, ◌-◌, length}
use Rattle.rls_epoch.proofs.nodes.Nodes.move_head.Given as goal

-- nothing was moved
abbrev pub invariant-loop-count : goal.invariant-loop-count
invariant-loop-count l = record {
  some : 0 < l.count;
  same : l.turned.items ≡ l.fn.turned.items;
}

abbrev pub decreases-loop-count : goal.decreases-loop-count
decreases-loop-count l = length l.turned.items - l.count
