use Rattle.std.proofs.Common.{◌≡◌, ◌-◌, ◌≤◌, [], length, take}
use Rattle.rls_seen.specs.Seen.{idents_over}
use Rattle.rls_changes.specs.Changes.{cuts, with_changes}
use Rattle.rls_changes.proofs.finding.stretches.Given as goal

-- all in front are taken out
abbrev pub invariant-stretches : goal.invariant-stretches
invariant-stretches l = record {
  within : l.at ≤ length l.targets;
  so_far : l.changes.items ≡ with_changes [] (cuts 0 (take l.at l.targets) (idents_over l.replica));
  gone : l.gone ≡ length (cuts 0 (take l.at l.targets) (idents_over l.replica));
}

abbrev pub decreases-stretches : goal.decreases-stretches
decreases-stretches l = length l.targets - l.at
