use Rattle.std.proofs.Common.{◌≤◌, ◌-◌, length, reverse}
use Rattle.rls_epoch.specs.Heads.{IsAhead}
use Rattle.rls_epoch.proofs.nodes.Nodes.move_heads.Given as goal

-- the tuples are those after the steps so far
abbrev pub invariant-loop-count : goal.invariant-loop-count
invariant-loop-count l = record {
  within : l.count ≤ length l.steps;
  ahead : IsAhead l.self.placed l.steps (reverse l.fn.turned.items) l.count (reverse l.turned.items);
}

abbrev pub decreases-loop-count : goal.decreases-loop-count
decreases-loop-count l = length l.steps - l.count
