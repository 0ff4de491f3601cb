use Rattle.std.proofs.Common.{◌≡◌, ◌+◌, ◌-◌, ◌*◌, ◌≤◌, ◌<◌, ◌^◌, suc, ◌++◌, map, drop, length}
use Rattle.rls_runs.specs.Runs.{AreIdents, idents_of}
use Rattle.rls_epoch.specs.Parts.{ends, work, AreUnderWay}
use Rattle.rls_epoch.specs.Ways.{led}
use Rattle.rls_epoch.proofs.nodes.Nodes.push_parts.Given as goal

-- where the runs that are left and the parts lead
abbrev pub invariant-loop-rest : goal.invariant-loop-rest
invariant-loop-rest l = record {
  idents : AreIdents (idents_of l.rest);
  total : length (idents_of l.rest) < 2 ^ 64;
  under_way : AreUnderWay (length l.steps) l.parts.items;
  ends : map (led l.self.placed (drop l.done l.steps)) (idents_of l.rest) ++ ends l.self.placed l.steps l.parts.items ≡ map (led l.self.placed (drop l.done l.steps)) (idents_of l.runs) ++ ends l.self.placed l.steps l.fn.parts.items;
  less : work (length l.steps) l.parts.items + length (idents_of l.rest) * suc (length l.steps - l.done) + length (idents_of l.runs) ≤ (work (length l.steps) l.fn.parts.items + length (idents_of l.runs) * suc (length l.steps - l.done)) + length (idents_of l.rest);
}

abbrev pub decreases-loop-rest : goal.decreases-loop-rest
decreases-loop-rest l = length l.rest
