use Rattle.rls_log.proofs.FoundOut.{CountedSoFar}
use Rattle.rls_log.proofs.scanning.count_of.Given as goal

abbrev pub invariant-loop-member : goal.invariant-loop-member
invariant-loop-member l = CountedSoFar l.bytes l.members l.author l.member l.found l.rest
