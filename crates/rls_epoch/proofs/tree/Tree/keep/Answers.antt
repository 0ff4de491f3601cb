use Rattle.std.proofs.Common.{arith}
use Rattle.rls_epoch.proofs.Shrinking.{by_name_left, order_left}
use Rattle.rls_epoch.proofs.tree.Tree.keep.Goals as goal

pub keep_places-requires : goal.keep_places-requires
keep_places-requires c = record { within = λ k q. let w = c.args.self.now.by_name_is.within k q in let m = c.requires.whole in omega (arith, w, m) }

pub keep_places-requires-2 : goal.keep_places-requires-2
keep_places-requires-2 c = record { within = λ k q. let w = c.args.self.now.order_is.within k q in let m = c.requires.whole in omega (arith, w, m) }

pub invariant_of-self : goal.invariant_of-self
invariant_of-self c =
    let t = c.args.self.now in
    let n = c.requires.numbered in
    rw (c.keep.ensures.placed, c.keep_places.ensures.kept, c.keep_places-2.ensures.kept) record {
      by_name_is = by_name_left t.nodes.top t.nodes.placed c.count-count.ensures.laid c.args.marks.now c.args.number c.requires.within c.requires.whole n.0 n.1 n.2 t.by_name.items t.by_name_is;
      order_is = order_left t.nodes.top t.nodes.placed c.count-count.ensures.laid c.args.marks.now c.args.number c.requires.within c.requires.whole n.0 n.1 n.2 t.order.items t.order_is;
    }
