use Rattle.std.proofs.Common.{drop}
use Rattle.rls_log.proofs.Contexts.{AtMostSoFar}
use Rattle.rls_log.proofs.context.is_context_at_most.Given as goal

abbrev pub invariant-loop-member : goal.invariant-loop-member
invariant-loop-member l = AtMostSoFar (drop 8 l.bytes) l.counts l.members l.member l.rest
