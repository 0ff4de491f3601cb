use Rattle.std.proofs.Common.{◌≡◌, ◌≤◌, length, map}
use Rattle.rls_rename.specs.Tree.{translate}
use Rattle.rls_epoch.specs.Links.{epoch_at}
use Rattle.rls_epoch.specs.Seen.{nodes_of}
use Rattle.rls_epoch.proofs.nodes.Nodes.runs_between.Given as goal

-- what is left of the way leads to where all of it leads
abbrev pub invariant-loop-doublings : goal.invariant-loop-doublings
invariant-loop-doublings l = record {
  within : l.at ≤ length l.self.placed;
  there : map (translate (nodes_of l.self.placed) (epoch_at l.self.top l.self.placed l.at) (epoch_at l.self.top l.self.placed l.to)) l.there ≡ map (translate (nodes_of l.self.placed) (epoch_at l.self.top l.self.placed l.from) (epoch_at l.self.top l.self.placed l.to)) l.ids;
}
