use Rattle.std.proofs.Common.{length, drop, subst}
use Rattle.rls_blocks.specs.Trees.{entries_of}
use Rattle.rls_tree.specs.Gaps.{AreGaps}
use Rattle.rls_tree.proofs.Filled.{first_gap, gaps_within}
use Rattle.rls_tree.proofs.tree.BlockTree.next_gap.Goals as goal

pub returns-in-Some-clause-within : goal.returns-in-Some-clause-within
returns-in-Some-clause-within c =
    let gs = c.args.gaps.now.items in
    let n = length (entries_of c.args.self.now.blocks) in
    let e = first_gap gs c.in-Some.gap.now (c.in-Some.ensures.item).3.0 c.in-Some.ensures.lookup in
    let h = subst (λ xs. AreGaps c.args.at xs n) e c.requires.places in
    gaps_within (drop 1 gs) c.in-Some.gap.now.at n h.1
