use Rattle.std.proofs.Common.{drop}
use Rattle.rls_replica.specs.Fitting.{AreFit}
use Rattle.rls_replica.proofs.restoring.ops_fit.Given as goal

-- where what is left fits, all do
abbrev pub invariant-loop-op : goal.invariant-loop-op
invariant-loop-op l = AreFit (drop l.op-index l.ops) → AreFit l.ops
