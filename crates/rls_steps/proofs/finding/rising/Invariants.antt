use Rattle.std.proofs.Common.{◌≡◌, ◌+◌, ◌-◌, ◌<◌, ◌≤◌, length, take, drop}
use Rattle.std.specs.Prelude.{slice_index}
use Rattle.rls_steps.specs.Marks.{numbers_from}
use Rattle.rls_steps.proofs.finding.rising.Given as goal

-- so many follow one another
abbrev pub invariant-labels : goal.invariant-labels
invariant-labels l = record {
  some : 0 < l.count;
  most : l.count ≤ l.most;
  within : l.from + l.count ≤ length l.labels;
  rising : take l.count (drop l.from l.labels) ≡ numbers_from (slice_index l.labels l.from) l.count;
}

abbrev pub decreases-labels : goal.decreases-labels
decreases-labels l = l.most - l.count
