use Rattle.std.proofs.Common.{◌-◌, ◌++◌, length, take, drop, ap, ◌∙◌, arith}
use Rattle.std.specs.Prelude.{not}
use Rattle.rls_runs.specs.Entries.{has_ident, without_all}
use Rattle.rls_runs.proofs.Sorted.{Entry}
use Rattle.rls_blocks.specs.Trees.{entries_of}
use Rattle.rls_tree.proofs.Puts.{taken_length}
use Rattle.rls_tree.proofs.Without.{filter_short}
use Rattle.rls_tree.proofs.Kept.{without_more}
use Rattle.rls_tree.proofs.tree.BlockTree.patch_from.Goals as goal

pub loop-blocks-preserved : goal.loop-blocks-preserved
loop-blocks-preserved c =
    let es = entries_of c.args.self.now.blocks in
    let ts = c.args.targets.now in
    let at = c.loop-blocks.at in
    let to = c.in_ok-at-2.at in
    let from = c.args.from in
    let inv = c.loop-blocks.invariant in
    let some = c.in_ok-at-2.ensures.some in
    record {
      order = omega (arith, inv.order, some);
      within = c.in_ok-at-2.ensures.within;
      entries = c.in_ok-at-2.ensures.entries ∙ ap (λ zs. zs ++ without_all ts (take (to - at) (drop at es))) inv.entries ∙ without_more ts es from at to (omega (arith, inv.order)) (omega (arith, some));
      loose = c.in_ok-at-2.ensures.loose;
    }

pub new-requires : goal.new-requires
new-requires c =
    let es = entries_of c.args.self.now.blocks in
    let ts = c.args.targets.now in
    let inv = c.loop-blocks.invariant in
    let from = c.args.from in
    let n = c.loop-blocks.at - from in
    let e = ap length inv.entries in
    let short = filter_short (λ (q : Entry). not (has_ident ts q.0)) (take n (drop from es)) in
    let long = taken_length from n es (omega (arith, inv.order, inv.within)) in
    record { chars_fit = omega (arith, e, short, long, inv.order, inv.within, c.chars-chars.ensures.chars) }
