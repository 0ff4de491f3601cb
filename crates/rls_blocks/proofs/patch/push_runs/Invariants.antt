use Rattle.std.proofs.Common.{◌≡◌, ◌++◌, length, take}
use Rattle.std.specs.Prelude.{zip}
use Rattle.rls_runs.specs.Runs.{idents_of}
use Rattle.rls_blocks.specs.Trees.{entries_of}
use Rattle.rls_blocks.specs.Edits.{Shows}
use Rattle.rls_blocks.proofs.patch.push_runs.Given as goal

abbrev pub invariant-loop-run : goal.invariant-loop-run
invariant-loop-run l = record {
  place : l.at ≡ length (idents_of (take l.run-index l.runs));
  shows : Shows (entries_of l.fn.blocks.items ++ take l.at (zip (idents_of l.runs) l.fn.text)) l.blocks.items;
}
