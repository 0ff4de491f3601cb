use Rattle.std.proofs.Common.{◌≡◌, length, drop, take}
use Rattle.std.specs.Prelude.{zip}
use Rattle.rls_runs.specs.Runs.{idents_of}
use Rattle.rls_runs.specs.Entries.{put_all}
use Rattle.rls_blocks.specs.Trees.{entries_of}
use Rattle.rls_tree.specs.Gaps.{Leaves}
use Rattle.rls_tree.proofs.tree.BlockTree.gaps_for.Given as goal

abbrev pub invariant-loop-run : goal.invariant-loop-run
invariant-loop-run l = record {
  place : l.at ≡ length (idents_of (take l.run-index l.runs));
  leaves : Leaves (entries_of l.self.blocks) l.gaps.items (drop l.at (zip (idents_of l.runs) l.text)) (put_all (zip (idents_of l.runs) l.text) (entries_of l.self.blocks));
}
