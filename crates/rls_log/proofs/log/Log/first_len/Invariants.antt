use Rattle.std.proofs.Common.{◌≡◌, ◌+◌, ◌-◌, ◌^◌, ◌≤◌, min, drop, take, sum_by}
use Rattle.rls_ops.specs.Sizes.{op_size}
use Rattle.rls_log.proofs.log.Log.first_len.Given as goal

abbrev pub invariant-loop-i : goal.invariant-loop-i
invariant-loop-i l = record {
  size : min (l.total + sum_by op_size (drop l.i (take l.n l.self))) (2 ^ 64 - 1) ≡ min (sum_by op_size (take l.n l.self)) (2 ^ 64 - 1);
  fits : l.total ≤ 2 ^ 64 - 1;
}
