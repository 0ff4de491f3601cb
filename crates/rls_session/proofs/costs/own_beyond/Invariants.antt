use Rattle.std.proofs.Common.{◌≡◌, ◌+◌, ◌-◌, ◌^◌, ◌≤◌, min, drop, length, sum_by}
use Rattle.rls_ops.specs.Rows.{missing_for}
use Rattle.rls_ops.specs.Sizes.{op_size}
use Rattle.rls_session.specs.Costs.{own_of}
use Rattle.rls_session.proofs.costs.own_beyond.Given as goal

-- those from the index on are still to be counted
abbrev pub invariant-loop-i : goal.invariant-loop-i
invariant-loop-i l = record {
  own : l.own + length (own_of l.me (missing_for l.stable (drop l.i l.log))) ≡ length (own_of l.me (missing_for l.stable l.log));
  few : l.own ≤ l.i;
  bytes : min (l.bytes + sum_by op_size (own_of l.me (missing_for l.stable (drop l.i l.log)))) (2 ^ 64 - 1) ≡ min (sum_by op_size (own_of l.me (missing_for l.stable l.log))) (2 ^ 64 - 1);
  fits : l.bytes ≤ 2 ^ 64 - 1;
}
