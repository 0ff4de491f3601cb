use Rattle.std.proofs.Common.{sym}
use Rattle.rls_runs.specs.Entries.{idents_in}
use Rattle.rls_runs.proofs.RunOrder.{rising_of}
use Rattle.rls_blocks.specs.Trees.{entries_of}
use Rattle.rls_tree.proofs.Puts.{first_above, run_fits, whole_place}
use Rattle.rls_tree.proofs.tree.BlockTree.gap_for.Goals as goal

pub ends_at-requires-clause-place : goal.ends_at-requires-clause-place
ends_at-requires-clause-place c = whole_place (entries_of c.args.self.now.blocks) c.in-Err.i c.args.first.now c.blocks-blocks.ensures.rises (sym c.in-Err.ensures.place)

pub returns-then-branch-clause-place : goal.returns-then-branch-clause-place
returns-then-branch-clause-place c = whole_place (entries_of c.args.self.now.blocks) c.in-Err.i c.args.first.now c.blocks-blocks.ensures.rises (sym c.in-Err.ensures.place)

pub returns-then-branch-clause-rises : goal.returns-then-branch-clause-rises
returns-then-branch-clause-rises c =
    let es = entries_of c.args.self.now.blocks in
    let front = first_above es c.in-Err.i c.args.first.now c.blocks-blocks.ensures.rises (sym c.in-Err.ensures.place) in
    run_fits (idents_in es) c.in-Err.i (c.args.first.now, c.args.len) (rising_of (idents_in es) c.blocks-blocks.ensures.rises) c.requires.run front (c.in_ok-ends_at.ensures.less c.if-branch.true)
