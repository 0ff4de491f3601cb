use Rattle.std.proofs.Common.{◌≡◌, length}
use Rattle.std.specs.Prelude.{replicate}
use Rattle.rls_model.specs.declared.event.Event.TheVariants as events
use Rattle.rls_model.specs.Worlds.{World}
use Rattle.rls_world.specs.Seen.{StandsForWorld}
use Rattle.rls_world.specs.Trial.{after_events}
use Rattle.rls_world.proofs.trials.deliver.Given as goal

-- so many were delivered
abbrev pub invariant-loop-done : goal.invariant-loop-done
invariant-loop-done l = ((w : World) → StandsForWorld l.fn.world w → StandsForWorld l.world (after_events w (replicate l.done (events.Deliver l.message l.to)))) × (length l.world.replicas ≡ length l.fn.world.replicas)
