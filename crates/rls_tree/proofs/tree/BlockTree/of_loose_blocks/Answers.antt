use Rattle.std.proofs.Common.{None, ap, ◌∙◌}
use Rattle.rls_blocks.specs.Trees.{entries_of, runs_in}
use Rattle.rls_blocks.specs.Edits.{are_loose}
use Rattle.rls_blocks.proofs.AtPlaces.{apart_shows}
use Rattle.rls_tree.proofs.tree.BlockTree.of_loose_blocks.Goals as goal

pub invariant_of-result : goal.invariant_of-result
invariant_of-result c =
    let given = c.in_ok-root.ensures in
    let bs = c.args.blocks.items in
    apart_shows c.in_ok-root.root.blocks (entries_of bs) given.pieces (record { entries_are = ap entries_of given.blocks; loose = ap (λ xs. are_loose None (runs_in xs)) given.blocks ∙ c.requires.loose }) c.requires.rises
