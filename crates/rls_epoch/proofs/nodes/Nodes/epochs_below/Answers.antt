use Rattle.std.proofs.Common.{◌+◌, ◌-◌, ◌/◌, get_or, sym, ap, ◌∙◌, arith}
use Rattle.std.proofs.lemmas.Option.{slice_get-get_or}
use Rattle.rls_rename.specs.Tree.{epoch_cmp}
use Rattle.rls_epoch.specs.Links.{epoch_at}
use Rattle.rls_epoch.specs.Seen.{nodes_of}
use Rattle.rls_epoch.proofs.Found.{read_in, next_at}
use Rattle.rls_epoch.proofs.Sorting.{cut_low, cut_high}
use Rattle.rls_epoch.proofs.nodes.Nodes.epochs_below.Goals as goal

pub overflow_add-places : goal.overflow_add-places
overflow_add-places c =
    let m = c.loop-low.low + (c.loop-low.high - c.loop-low.low) / 2 in
    let w = c.requires.within (get_or c.args.places.now m 0) (read_in c.args.places.now m (omega arith)) in
    omega arith

pub compare-requires-clause-first : goal.compare-requires-clause-first
compare-requires-clause-first c =
    let m = c.loop-low.low + (c.loop-low.high - c.loop-low.low) / 2 in
    let w = c.requires.within (get_or c.args.places.now m 0) (read_in c.args.places.now m (omega arith)) in
    omega arith

pub loop-low-preserved-in-Less : goal.loop-low-preserved-in-Less
loop-low-preserved-in-Less c =
    let i = c.loop-low.invariant in
    let top = c.args.self.now.top in
    let ps = c.args.self.now.placed in
    let places = c.args.places.now in
    let m = c.loop-low.low + (c.loop-low.high - c.loop-low.low) / 2 in
    let k = get_or places m 0 in
    let e = epoch_at top ps c.args.number in
    let g = slice_get-get_or places m 0 (omega arith) in
    let h = ap (λ f. epoch_cmp (nodes_of ps) f e) (sym (next_at top ps k)) ∙ sym c.in-Less.ensures.order in
    record {
      order = omega arith;
      in_range = i.in_range;
      below = cut_low (epoch_cmp (nodes_of ps)) ps places e m k g h;
      above = i.above;
    }

pub loop-low-preserved : goal.loop-low-preserved
loop-low-preserved c =
    let m = c.loop-low.low + (c.loop-low.high - c.loop-low.low) / 2 in
    let ps = c.args.self.now.placed in
    let ks = c.args.places.now in
    let e = epoch_at c.args.self.now.top ps c.args.number in
    record {
      order = omega arith;
      in_range = omega arith;
      below = c.loop-low.invariant.below;
      above = cut_high (epoch_cmp (nodes_of ps)) ps ks e m (get_or ks m 0) (slice_get-get_or ks m 0 (omega arith))
          (λ l. c.in_default.not-Less (c.compare.ensures.order ∙ (ap (λ f. epoch_cmp (nodes_of ps) f e) (next_at c.args.self.now.top ps (get_or ks m 0)) ∙ l)));
    }
