use Rattle.std.proofs.Common.{◌≡◌, ◌+◌, ◌-◌, ◌^◌, ◌≤◌, min, sum_by}
use Rattle.rls_ops.specs.Sizes.{op_size}
use Rattle.rls_fields.proofs.write_ops.waiting_len.Given as goal

abbrev pub invariant-loop-op : goal.invariant-loop-op
invariant-loop-op l = record {
  size : min (l.total + sum_by op_size l.op-iterator) (2 ^ 64 - 1) ≡ min (sum_by op_size l.held) (2 ^ 64 - 1);
  fits : l.total ≤ 2 ^ 64 - 1;
}
