use Rattle.std.proofs.Common.{◌≡◌, ◌+◌, suc, ◌∷◌, Some, map, ap, arith}
use Rattle.std.specs.Prelude.{slice_get}
use Rattle.rls_epoch.proofs.Listed.{nodes_length, number_read, order_length, rising_named}
use Rattle.rls_epoch.proofs.tree.Tree.number_at.Goals as goal

pub place_in_order-requires : goal.place_in_order-requires
place_in_order-requires c =
    let e = nodes_length c.args.self.now.nodes.placed in
    let m = order_length c.count-count.ensures.laid c.args.self.now.order_is in
    let p = c.requires.place in
    record { within = omega arith }

pub returns-then-i-eq0-clause-epoch : goal.returns-then-i-eq0-clause-epoch
returns-then-i-eq0-clause-epoch c =
    rising_named c.count-count.ensures.laid c.args.self.now.order_is c.args.i 0 (ap (slice_get (0 ∷ map suc c.args.self.now.order.items)) c.if-i-eq0.true)

pub returns-clause-epoch : goal.returns-clause-epoch
returns-clause-epoch c =
    let order = c.args.self.now.order.items in
    let e = nodes_length c.args.self.now.nodes.placed in
    let m = order_length c.count-count.ensures.laid c.args.self.now.order_is in
    let p = c.requires.place in
    let read : slice_get (0 ∷ map suc order) c.args.i ≡ Some (c.place_in_order.result + 1) = rw c.place_in_order.ensures.place (number_read order c.args.i c.if-i-eq0.false (omega arith)) in
    rising_named c.count-count.ensures.laid c.args.self.now.order_is c.args.i (c.place_in_order.result + 1) read
