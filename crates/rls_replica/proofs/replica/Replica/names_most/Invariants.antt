use Rattle.rls_replica.specs.Lookups.{AreKnown}
use Rattle.rls_replica.proofs.replica.Replica.names_most.Given as goal

-- those that it was found to name are known
abbrev pub invariant-loop-doublings : goal.invariant-loop-doublings
invariant-loop-doublings l = AreKnown l.self l.targets l.named
