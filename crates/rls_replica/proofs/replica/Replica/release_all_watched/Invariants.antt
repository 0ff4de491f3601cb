use Rattle.std.proofs.Common.{◌≡◌, ℕ, length}
use Rattle.rls_seen.specs.Over.{released_all, IsPartReleased}
use Rattle.rls_seen.specs.Messages.{with_releases}
use Rattle.rls_replica.specs.Steps.{course, CountsReleased, AreFew}
use Rattle.rls_model.specs.Machine.{release_all_on}
use Rattle.rls_replica.specs.Watching.{told_course, watched, IsTold}
use Rattle.rls_replica.proofs.replica.Replica.release_all_watched.Given as goal

-- what is left to release makes of it what releasing all makes of the first
abbrev pub invariant-releases : goal.invariant-releases
invariant-releases g l = record {
  all : with_releases (course l.self l.taken) ≡ with_releases (course l.fn.self l.fn.taken);
  course : release_all_on (watched g.W.Watcher.tells) (told_course l.self l.taken (g.W.Watcher.told l.watcher)) ≡ release_all_on (watched g.W.Watcher.tells) (told_course l.fn.self l.fn.taken (g.W.Watcher.told l.fn.watcher));
  seen : released_all l.self ≡ released_all l.fn.self;
  part : IsPartReleased l.fn.self l.self;
  counted : CountsReleased l.self l.taken;
  steps : IsTold g.W.Watcher.tells l.fn.self l.self (g.W.Watcher.told l.fn.watcher) (g.W.Watcher.told l.watcher);
  arrived : (n : ℕ) → AreFew n l.fn.taken → AreFew n l.taken;
}

abbrev pub decreases-releases : goal.decreases-releases
decreases-releases g l = length l.self.waiting
