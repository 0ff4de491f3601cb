use Rattle.std.proofs.Common.{◌≡◌, ◌≤◌, ◌+◌, ◌-◌, length, drop}
use Rattle.std.specs.Prelude.{reverse}
use Rattle.rls_steps.specs.Forgetting.{fitting}
use Rattle.rls_steps.proofs.dropping.fitting.Given as goal

-- the newest ones fit, and leave this room
abbrev pub invariant-steps : goal.invariant-steps
invariant-steps l = record {
  few : l.fit ≤ l.most;
  within : l.fit ≤ length l.steps.items;
  same : l.fit + fitting (l.most - l.fit) l.room (drop l.fit (reverse l.steps.items)) ≡ fitting l.most l.chars (reverse l.steps.items);
}

abbrev pub decreases-steps : goal.decreases-steps
decreases-steps l = l.most - l.fit
