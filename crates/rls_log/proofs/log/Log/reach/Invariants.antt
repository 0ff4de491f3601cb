use Rattle.std.proofs.Common.{◌≡◌, ◌≤◌, ◌++◌, take, drop}
use Rattle.rls_ops.specs.Rows.{missing_for}
use Rattle.rls_ops.specs.Sizes.{front_within}
use Rattle.rls_log.proofs.log.Log.reach.Given as goal

-- those so far, and what is still found in the others, is what is asked for
abbrev pub invariant-loop-i : goal.invariant-loop-i
invariant-loop-i l = record {
  within : l.used ≤ l.limit;
  total : missing_for l.vector (take l.i l.self) ++ front_within l.used l.limit (missing_for l.vector (drop l.i l.self)) ≡ front_within 0 l.limit (missing_for l.vector l.self);
}
