use Rattle.std.proofs.Common.{drop}
use Rattle.rls_replica.specs.Fitting.{HaveFormer}
use Rattle.rls_replica.proofs.restoring.former_fit.Given as goal

-- where what is left fits, all do
abbrev pub invariant-loop-entry : goal.invariant-loop-entry
invariant-loop-entry l = HaveFormer (drop l.entry-index l.list) → HaveFormer l.list
