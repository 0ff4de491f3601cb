use Rattle.std.proofs.Common.{◌≡◌, length}
use Rattle.rls_model.specs.Worlds.{empty_world}
use Rattle.rls_world.specs.Seen.{StandsForWorld}
use Rattle.rls_world.specs.Trial.{steps}
use Rattle.rls_world.proofs.trials.trial.Given as goal

-- so many steps were made
abbrev pub invariant-loop-done : goal.invariant-loop-done
invariant-loop-done l =
    StandsForWorld l.world (steps l.done (record { world = empty_world 1 3; drawn_by = l.seed })).world
    × (l.draws.state ≡ (steps l.done (record { world = empty_world 1 3; drawn_by = l.seed })).drawn_by)
    × (length l.world.replicas ≡ 3)
