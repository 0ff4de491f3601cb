use Rattle.std.proofs.Common.{◌≤◌, ◌<◌, length}
use Rattle.std.specs.List.{All}
use Rattle.rls_epoch.specs.Ways.{place_of_step}
use Rattle.rls_epoch.proofs.nodes.Nodes.route.Given as goal

-- each step goes over a node
abbrev pub invariant-loop-doublings : goal.invariant-loop-doublings
invariant-loop-doublings l = record {
  within : l.at ≤ length l.self.placed;
  stops : All (λ s. place_of_step s.step < length l.self.placed) l.stops.items;
}
