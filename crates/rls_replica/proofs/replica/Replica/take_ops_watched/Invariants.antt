use Rattle.std.proofs.Common.{◌≡◌, ◌+◌, ◌<◌, ◌^◌, ℕ, length}
use Rattle.rls_replica.specs.Steps.{course, CountsReleased, AreFew, IsOnWay}
use Rattle.rls_model.specs.Machine.{no_counts, take_on}
use Rattle.rls_replica.specs.Watching.{told_course, watched, IsTold}
use Rattle.rls_replica.proofs.replica.Replica.take_ops_watched.Given as goal

-- on the way through all operations, of which these are left
abbrev pub invariant-taking : goal.invariant-taking
invariant-taking g l = record {
  way : IsOnWay l.fn.self l.fn.ops (course l.self l.taken) l.rest;
  told : take_on (watched g.W.Watcher.tells) (told_course l.self l.taken (g.W.Watcher.told l.watcher)) l.rest ≡ take_on (watched g.W.Watcher.tells) (told_course l.fn.self no_counts (g.W.Watcher.told l.fn.watcher)) l.fn.ops;
  steps : IsTold g.W.Watcher.tells l.fn.self l.self (g.W.Watcher.told l.fn.watcher) (g.W.Watcher.told l.watcher);
  counted : CountsReleased l.self l.taken;
  few : (n : ℕ) × (n + length l.rest < 2 ^ 63) × AreFew n l.taken;
}

abbrev pub decreases-taking : goal.decreases-taking
decreases-taking g l = length l.rest
