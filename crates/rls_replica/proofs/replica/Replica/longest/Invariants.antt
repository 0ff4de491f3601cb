use Rattle.std.proofs.Common.{◌<◌, length}
use Rattle.std.specs.Prelude.{IfSome}
use Rattle.rls_replica.specs.declared.hints.Hint.{Hint}
use Rattle.rls_replica.proofs.replica.Replica.longest.Given as goal

-- the hint so far tells an operation of the log
abbrev pub invariant-loop-of_author : goal.invariant-loop-of_author
invariant-loop-of_author l = IfSome l.longest (λ (h : Hint). h.place < length l.self.log)
