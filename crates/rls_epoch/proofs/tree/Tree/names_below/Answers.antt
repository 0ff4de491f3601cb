use Rattle.std.proofs.Common.{◌+◌, ◌-◌, ◌/◌, get_or, sym, ap, ◌∙◌, arith}
use Rattle.std.proofs.lemmas.Option.{slice_get-get_or}
use Rattle.rls_epoch.specs.Climbing.{name_cmp}
use Rattle.rls_epoch.proofs.Sorting.{cut_low, cut_high}
use Rattle.rls_epoch.proofs.tree.Tree.names_below.Goals as goal

pub loop-low-preserved-in-Less : goal.loop-low-preserved-in-Less
loop-low-preserved-in-Less c =
    let i = c.loop-low.invariant in
    let ps = c.args.self.now.nodes.placed in
    let places = c.args.self.now.by_name.items in
    let m = c.loop-low.low + (c.loop-low.high - c.loop-low.low) / 2 in
    let g = slice_get-get_or places m 0 (omega arith) in
    let h = ap (λ e. name_cmp e c.args.name) (sym c.name_by_name.ensures.name) ∙ sym c.in-Less.ensures.order in
    record {
      order = omega arith;
      in_range = i.in_range;
      below = cut_low name_cmp ps places c.args.name m (get_or places m 0) g h;
      above = i.above;
    }

pub loop-low-preserved : goal.loop-low-preserved
loop-low-preserved c =
    let i = c.loop-low.invariant in
    let ps = c.args.self.now.nodes.placed in
    let places = c.args.self.now.by_name.items in
    let m = c.loop-low.low + (c.loop-low.high - c.loop-low.low) / 2 in
    let g = slice_get-get_or places m 0 (omega arith) in
    record {
      order = omega arith;
      in_range = omega arith;
      below = i.below;
      above = cut_high name_cmp ps places c.args.name m (get_or places m 0) g (λ l. c.in_default.not-Less (c.compare_names.ensures.order ∙ (ap (λ e. name_cmp e c.args.name) c.name_by_name.ensures.name ∙ l)));
    }
