use Rattle.rls_rename.specs.Tree.{epoch_cmp}
use Rattle.rls_epoch.specs.Maxima.{AreFirst}
use Rattle.rls_epoch.specs.Seen.{nodes_of}
use Rattle.rls_epoch.proofs.tree.Tree.find_maxima.Given as goal

-- the first ones have their maxima
abbrev pub invariant-loop-i : goal.invariant-loop-i
invariant-loop-i l = AreFirst (epoch_cmp (nodes_of l.self.nodes.placed)) l.self.nodes.top l.self.nodes.placed l.self.by_name.items l.i l.maxima
