use Rattle.std.proofs.Common.{◌≤◌, length, take}
use Rattle.rls_ops.specs.Rows.{missing_for}
use Rattle.rls_log.proofs.log.Log.missing_start.Given as goal

abbrev pub invariant-loop-start : goal.invariant-loop-start
invariant-loop-start l = record {
  few : length (missing_for l.vector (take l.start l.self)) ≤ l.left;
  within : l.start ≤ length l.self;
}

abbrev pub decreases-loop-start : goal.decreases-loop-start
decreases-loop-start l = l.start
