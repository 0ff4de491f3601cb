use Rattle.std.proofs.Common.{◌≡◌, ◌+◌, ◌-◌, ◌^◌, ◌≤◌, min, drop}
use Rattle.rls_log.specs.Latest.{excess}
use Rattle.rls_log.proofs.latest.excess.Given as goal

abbrev pub invariant-loop-a : goal.invariant-loop-a
invariant-loop-a l = record {
  sum : min (l.total + excess (drop l.a l.numbers) (drop l.a l.counts)) (2 ^ 64 - 1) ≡ min (excess l.numbers l.counts) (2 ^ 64 - 1);
  fits : l.total ≤ 2 ^ 64 - 1;
}
