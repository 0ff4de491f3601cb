use Rattle.std.proofs.Common.{◌≡◌, ◌++◌, length, map}
use Rattle.rls_epoch.specs.Parts.{ends, work, AreUnderWay}
use Rattle.rls_epoch.specs.Ways.{led}
use Rattle.rls_epoch.proofs.nodes.Nodes.runs_led.Given as goal

-- what is at the end, and where the parts lead
abbrev pub invariant-loop-ids : goal.invariant-loop-ids
invariant-loop-ids l = record {
  under_way : AreUnderWay (length l.steps) l.parts.items;
  ends : l.at_end ++ ends l.self.placed l.steps l.parts.items ≡ map (led l.self.placed l.steps) l.ids;
}

abbrev pub decreases-loop-ids : goal.decreases-loop-ids
decreases-loop-ids l = work (length l.steps) l.parts.items
