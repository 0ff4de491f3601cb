use Rattle.std.proofs.Common.{◌≡◌, ◌<◌, suc, take}
use Rattle.rls_epoch.specs.Marks.{mark_count}
use Rattle.rls_epoch.proofs.Spreading.{IsSpreading}
use Rattle.rls_epoch.proofs.nodes.Nodes.spread.Given as goal

-- so many ways up haven't met
abbrev pub invariant-loop-wanted : goal.invariant-loop-wanted
invariant-loop-wanted l = record {
  state : IsSpreading l.self.top l.self.placed l.fn.marks l.marks l.number;
  count : l.wanted ≡ mark_count (take (suc l.number) l.marks);
  some : 0 < l.wanted;
}

abbrev pub decreases-loop-wanted : goal.decreases-loop-wanted
decreases-loop-wanted l = l.number
