use Rattle.std.proofs.Common.{◌≡◌}
use Rattle.rls_world.specs.Seen.{fresh_replicas}
use Rattle.rls_world.proofs.world.all_fresh.Given as goal

-- those of the members below are there
abbrev pub invariant-loop-me : goal.invariant-loop-me
invariant-loop-me l = l.replicas.items ≡ fresh_replicas l.group l.members l.me
