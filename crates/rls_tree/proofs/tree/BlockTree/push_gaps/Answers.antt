use Rattle.std.proofs.Common.{◌≡◌, ◌++◌, [], drop, subst, arith}
use Rattle.std.proofs.Math.ListN.{drop_of_length-le}
use Rattle.rls_blocks.specs.Trees.{Piece, entries_of, piece_entries}
use Rattle.rls_tree.specs.Gaps.{Leaves}
use Rattle.rls_blocks.proofs.Cases.{own_length}
use Rattle.rls_tree.proofs.tree.BlockTree.push_gaps.Goals as goal

pub loop-done-preserved : goal.loop-done-preserved
loop-done-preserved c =
    record {
      within = c.in_ok-done.ensures.within;
      leaves = λ more all was. c.in_ok-done.ensures.ok more all (c.loop-done.invariant.leaves more all was);
    }

pub returns : goal.returns
returns c =
    let b : Piece = (c.args.run.now, c.args.text.now) in
    let o = own_length b c.requires.as_many in
    let none : drop c.loop-done.done (piece_entries b) ≡ [] = drop_of_length-le (piece_entries b) (omega (arith, o, c.len.ensures.len, c.loop-done-test.false)) in
    record { ok = λ more all was. subst (λ zs. Leaves (entries_of c.args.self.now.blocks) c.loop-done.gaps.items (zs ++ more) all) none (c.loop-done.invariant.leaves more all was) }
