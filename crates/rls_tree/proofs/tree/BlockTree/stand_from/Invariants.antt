use Rattle.std.proofs.Common.{◌≡◌, ◌-◌, ◌≤◌, length, take, drop}
use Rattle.rls_runs.specs.Runs.{idents_of}
use Rattle.rls_runs.specs.Entries.{idents_in}
use Rattle.rls_blocks.specs.Trees.{entries_of}
use Rattle.rls_tree.proofs.tree.BlockTree.stand_from.Given as goal

abbrev pub invariant-loop-run : goal.invariant-loop-run
invariant-loop-run l = record {
  order : l.from ≤ l.at;
  within : l.at ≤ length (entries_of l.self.blocks);
  idents : take (l.at - l.from) (drop l.from (idents_in (entries_of l.self.blocks))) ≡ idents_of (take l.run-index l.runs);
}
