use Rattle.std.proofs.Common.{◌≡◌, ◌≤◌, ◌+◌, ◌-◌, length, drop}
use Rattle.rls_steps.specs.Groups.{in_front}
use Rattle.rls_steps.proofs.dropping.rest_of_group.Given as goal

-- so many more are of the group
abbrev pub invariant-steps : goal.invariant-steps
invariant-steps l = record {
  within : l.from + l.more ≤ length l.steps.items;
  same : l.more + in_front l.group (drop (l.from + l.more) l.steps.items) ≡ in_front l.group (drop l.from l.steps.items);
}

abbrev pub decreases-steps : goal.decreases-steps
decreases-steps l = length l.steps.items - l.more
