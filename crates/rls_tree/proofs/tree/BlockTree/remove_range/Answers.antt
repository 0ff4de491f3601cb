use Rattle.std.proofs.Common.{◌≡◌, None, true, sym, subst}
use Rattle.rls_runs.specs.Runs.{are_apart}
use Rattle.rls_blocks.specs.Trees.{entries_of, runs_in}
use Rattle.rls_blocks.specs.Edits.{removed}
use Rattle.rls_blocks.proofs.Pieces.{pieces_rise}
use Rattle.rls_blocks.proofs.AtPlaces.{apart_shows}
use Rattle.rls_tree.proofs.Without.{increasing_removed}
use Rattle.rls_tree.proofs.tree.BlockTree.remove_range.Goals as goal

pub invariant_of-self : goal.invariant_of-self
invariant_of-self c =
    let es = entries_of c.replace-link.result.blocks in
    let old = subst (λ l. are_apart None (runs_in l.blocks) ≡ true) (sym c.replace-link.ensures.value) c.self.invariant in
    apart_shows c.in-Ok.root.blocks (removed c.args.i c.args.count es) c.chars-chars-in-Ok.ensures.pieces c.in-Ok.ensures.ok
    (increasing_removed c.args.i c.args.count es (pieces_rise c.replace-link.result.blocks c.chars-chars.ensures.pieces old))
