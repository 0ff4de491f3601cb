use Rattle.std.proofs.Common.{◌<◌, length, drop}
use Rattle.std.specs.List.{All}
use Rattle.rls_epoch.specs.Ways.{AreWithin, place_of_step}
use Rattle.rls_epoch.proofs.nodes.Nodes.follow.Given as goal

-- what is left goes over nodes, and so do the steps that were put
abbrev pub invariant-loop-step : goal.invariant-loop-step
invariant-loop-step l = record {
  left : AreWithin (length l.self.placed) (drop l.step-index l.steps);
  stops : All (λ s. place_of_step s.step < length l.self.placed) l.stops.items;
}
