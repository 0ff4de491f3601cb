use Rattle.std.proofs.Common.{◌≡◌, ◌<◌, length}
use Rattle.std.specs.Prelude.{IfSome}
use Rattle.std.specs.List.{All}
use Rattle.rls_epoch.specs.KnownRuns.{IsKnown}
use Rattle.rls_epoch.specs.Seen.{nodes_of}
use Rattle.rls_epoch.specs.Ways.{place_of_step}
use Rattle.rls_epoch.proofs.nodes.Nodes.learn_back.Given as goal

-- nothing that is seen changes, and what is told is known
abbrev pub invariant-loop-stop : goal.invariant-loop-stop
invariant-loop-stop l = record {
  same : l.self ≡ l.fn.self;
  stops : All (λ s. place_of_step s.step < length l.fn.self.placed) l.route.stops.items;
  known : IsKnown (nodes_of l.fn.self.placed) l.route.known;
  last : IfSome l.last (λ k. IsKnown (nodes_of l.fn.self.placed) k);
}

abbrev pub decreases-loop-stop : goal.decreases-loop-stop
decreases-loop-stop l = length l.route.stops.items
