use Rattle.std.proofs.Common.{◌≡◌, ◌+◌, suc, ◌∷◌, ap, ◌∙◌, arith}
use Rattle.std.specs.Prelude.{slice_get}
use Rattle.rls_epoch.specs.Sorted.{names_at}
use Rattle.rls_epoch.proofs.Listed.{place_found}
use Rattle.rls_epoch.proofs.tree.Tree.place_at.Goals as goal

pub epochs_below-requires-clause-within : goal.epochs_below-requires-clause-within
epochs_below-requires-clause-within c = rw c.deref.ensures.value c.args.self.now.order_is.within

pub returns : goal.returns
returns c =
    let top = c.args.self.now.nodes.top in
    let ps = c.args.self.now.nodes.placed in
    let order = c.args.self.now.order.items in
    let i = c.epochs_below.result in
    let next : i + 1 ≡ suc i = omega arith in
    let n = c.if-number-eq0.false in
    record { place = ap (slice_get (top ∷ names_at ps order)) next ∙ place_found top ps order c.args.self.now.order_is c.args.number i (omega arith) c.requires.within (rw c.deref.ensures.value at c.epochs_below.ensures.cut) }
