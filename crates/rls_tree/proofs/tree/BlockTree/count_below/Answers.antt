use Rattle.std.proofs.Common.{sym, ◌∙◌}
use Rattle.rls_runs.specs.Entries.{idents_in}
use Rattle.rls_blocks.specs.Trees.{entries_of}
use Rattle.rls_runs.proofs.RunPlaces.{found_is}
use Rattle.rls_runs.proofs.Gaps.{read_ok, read_err}
use Rattle.rls_tree.proofs.tree.BlockTree.count_below.Goals as goal
use Rattle.rls_runs.proofs.RunOrder.{rising_of}

pub returns-in-Ok : goal.returns-in-Ok
returns-in-Ok c =
    let xs = idents_in (entries_of c.args.self.now.blocks) in
    record { count = sym (read_ok xs c.args.id.now c.in-Ok.i (found_is xs c.args.id.now (rising_of xs c.blocks-blocks.ensures.rises) ∙ sym c.in-Ok.ensures.place)).1 }

pub returns-in-Err : goal.returns-in-Err
returns-in-Err c =
    let xs = idents_in (entries_of c.args.self.now.blocks) in
    record { count = sym (read_err xs c.args.id.now c.in-Err.i (found_is xs c.args.id.now (rising_of xs c.blocks-blocks.ensures.rises) ∙ sym c.in-Err.ensures.place)).1 }
