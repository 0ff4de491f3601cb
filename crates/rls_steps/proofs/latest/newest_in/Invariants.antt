use Rattle.std.proofs.Common.{◌≡◌, ◌≤◌, take}
use Rattle.std.specs.Prelude.{reverse}
use Rattle.rls_steps.specs.NameRuns.{named}
use Rattle.rls_steps.specs.Index.{newest_at}
use Rattle.rls_steps.proofs.latest.newest_in.Given as goal

-- no run from a place on has the label
abbrev pub invariant-runs : goal.invariant-runs
invariant-runs l = record {
  within : l.i ≤ l.count;
  same : newest_at (reverse (named (take l.count l.runs))) l.label ≡ newest_at (reverse (named (take l.i l.runs))) l.label;
}

abbrev pub decreases-runs : goal.decreases-runs
decreases-runs l = l.i
