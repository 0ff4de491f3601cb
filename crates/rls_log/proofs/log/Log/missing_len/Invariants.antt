use Rattle.std.proofs.Common.{◌≡◌, ◌+◌, ◌-◌, ◌^◌, ◌≤◌, min, drop, sum_by}
use Rattle.rls_ops.specs.Rows.{missing_for}
use Rattle.rls_ops.specs.Sizes.{op_size}
use Rattle.rls_log.proofs.log.Log.missing_len.Given as goal

abbrev pub invariant-loop-i : goal.invariant-loop-i
invariant-loop-i l = record {
  size : min (l.total + sum_by op_size (missing_for l.vector (drop l.i l.self))) (2 ^ 64 - 1) ≡ min (sum_by op_size (missing_for l.vector l.self)) (2 ^ 64 - 1);
  fits : l.total ≤ 2 ^ 64 - 1;
}
