use Rattle.std.proofs.Common.{rules, ◌≡◌, length, ap, ◌∙◌, arith, length-append}
use Rattle.std.specs.Prelude.{insert}
use Rattle.rls_epoch.proofs.Added.{epochs_added, names_added}
use Rattle.rls_epoch.proofs.tree.Tree.add.Goals as goal

pub epochs_below_newest-at-requires-clause-within : goal.epochs_below_newest-at-requires-clause-within
epochs_below_newest-at-requires-clause-within c =
    let len = ap length c.push.ensures.placed ∙ length-append c.args.self.now.nodes.placed _ in
    rw c.deref.ensures.value (λ k q. let l = c.args.self.now.order_is.within k q in omega (arith, l, len))

pub invariant_of-self-2 : goal.invariant_of-self-2
invariant_of-self-2 c =
    let t = c.args.self.now in
    let ps = t.nodes.placed in
    let i = c.names_below-index.result in
    let j = c.epochs_below_newest-at.result in
    let named : c.insert.new.self.items ≡ insert t.by_name.items i c.count-place.result = search rules in
    let ordered : c.insert-2.new.self.items ≡ insert t.order.items j c.count-place.result = search rules in
    let laid = rw (c.push.ensures.top, c.push.ensures.placed) at c.count-count.ensures.laid in
    rw (c.push.ensures.placed, named, ordered, c.count-place.ensures.count) record {
      by_name_is = names_added t.nodes.top ps c.args.node c.requires.fresh t.by_name.items i t.by_name_is (rw c.name.ensures.name at c.names_below-index.ensures.cut);
      order_is = epochs_added t.nodes.top ps c.args.node c.requires.fresh t.order.items j laid t.order_is (rw (c.count-count.ensures.count, c.push.ensures.placed, c.push.ensures.top, c.deref.ensures.value) at c.epochs_below_newest-at.ensures.cut);
    }
