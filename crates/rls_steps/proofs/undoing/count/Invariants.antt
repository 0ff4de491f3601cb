use Rattle.std.proofs.Common.{◌≡◌, ◌≤◌, ◌+◌, drop}
use Rattle.rls_steps.specs.Groups.{group_before, groups_after, group_count}
use Rattle.rls_steps.proofs.undoing.count.Given as goal

-- the groups of the first steps are counted
abbrev pub invariant-steps : goal.invariant-steps
invariant-steps l = record {
  few : l.count ≤ l.i;
  same : l.count + groups_after (group_before l.steps.items l.i) (drop l.i l.steps.items) ≡ group_count l.steps.items;
}
