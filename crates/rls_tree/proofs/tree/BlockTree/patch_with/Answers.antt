use Rattle.std.proofs.Common.{length, drop, ap, ◌∙◌, arith, length-append}
use Rattle.rls_blocks.specs.Trees.{entries_of}
use Rattle.rls_tree.specs.Gaps.{filled}
use Rattle.rls_tree.proofs.Filled.{gap_within, gaps_within}
use Rattle.rls_tree.proofs.tree.BlockTree.patch_with.Goals as goal

pub fill_next-requires-clause-more : goal.fill_next-requires-clause-more
fill_next-requires-clause-more c f = gap_within c.args.gaps.now.items c.args.from (length (entries_of c.args.self.now.blocks)) c.requires.some c.requires.places f

pub is_filled-requires : goal.is_filled-requires
is_filled-requires c = record { place = gaps_within c.loop-gaps.gaps.items c.loop-gaps.at (length (entries_of c.args.self.now.blocks)) c.loop-gaps.invariant.places }

pub loop-gaps-preserved : goal.loop-gaps-preserved
loop-gaps-preserved c =
    let given = c.in_ok-at-2.ensures in
    let inv = c.loop-gaps.invariant in
    let order = given.order in
    let fewer = given.fewer in
    record {
      order = omega (arith, inv.order, order);
      places = given.places;
      fewer = omega (arith, inv.fewer, fewer);
      entries = given.entries ∙ inv.entries;
      some = given.some;
      loose = given.loose;
    }

pub new-requires : goal.new-requires
new-requires c =
    let es = entries_of c.args.self.now.blocks in
    let l = c.loop-gaps in
    let e = ap length l.invariant.entries in
    let m = length-append (entries_of l.blocks.items) (filled l.at l.gaps.items es (λ k. drop k es)) in
    record { chars_fit = omega (arith, e, m, c.requires.room) }
