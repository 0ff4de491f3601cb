use Rattle.rls_epoch.proofs.Looking.{IsLooking}
use Rattle.rls_epoch.proofs.tree.Tree.greatest_in.Given as goal

-- what is within the vector was found or lies among the rest
abbrev pub invariant-loop-rest : goal.invariant-loop-rest
invariant-loop-rest l = IsLooking l.self.nodes.top l.self.nodes.placed l.self.by_name.items l.v l.rest l.number

abbrev pub decreases-loop-rest : goal.decreases-loop-rest
decreases-loop-rest l = l.rest
