use Rattle.std.proofs.Common.{ap, ◌∙◌, sym, subst, ◌+◌}
use Rattle.rls_ident.specs.declared.epoch_name.EpochName.TheVariants.{Of}
use Rattle.rls_rename.specs.Renaming.{Renaming}
use Rattle.rls_rename.specs.Tree.{is_kept}
use Rattle.rls_parts.proofs.Building.{can_add}
use Rattle.rls_parts.specs.Building.{IsTreeBefore}
use Rattle.rls_parts.proofs.epochs.add.Goals as goal

pub add-requires-clause-fresh : goal.add-requires-clause-fresh
add-requires-clause-fresh c =
    let r = c.requires in
    let F = c.reserve.new.self.epochs in
    let is = c.in_ok-renaming.ensures.renaming in
    let m = can_add c.args.parts.now c.args.i c.args.tree.now.epochs F c.args.entry.now c.get.result.now c.in-Of-Some.replica c.in-Of-Some.seq c.in-Of-Some.place c.in_ok-renaming.renaming c.in_ok-reserve.ensures.epochs r.tree_is r.entry_is r.few r.opens c.in-Of-Some.is-0 c.in-Of-Some.is-1 c.get.ensures.item is in
    ap (λ (x : Renaming). is_kept F.top F.nodes (Of x.replica x.seq)) (sym is) ∙ m.fresh

pub add-requires-clause-parent : goal.add-requires-clause-parent
add-requires-clause-parent c =
    let r = c.requires in
    (can_add c.args.parts.now c.args.i c.args.tree.now.epochs c.reserve.new.self.epochs c.args.entry.now c.get.result.now c.in-Of-Some.replica c.in-Of-Some.seq c.in-Of-Some.place c.in_ok-renaming.renaming c.in_ok-reserve.ensures.epochs r.tree_is r.entry_is r.few r.opens c.in-Of-Some.is-0 c.in-Of-Some.is-1 c.get.ensures.item c.in_ok-renaming.ensures.renaming).kept

pub add-requires-clause-total : goal.add-requires-clause-total
add-requires-clause-total c =
    let r = c.requires in
    (can_add c.args.parts.now c.args.i c.args.tree.now.epochs c.reserve.new.self.epochs c.args.entry.now c.get.result.now c.in-Of-Some.replica c.in-Of-Some.seq c.in-Of-Some.place c.in_ok-renaming.renaming c.in_ok-reserve.ensures.epochs r.tree_is r.entry_is r.few r.opens c.in-Of-Some.is-0 c.in-Of-Some.is-1 c.get.ensures.item c.in_ok-renaming.ensures.renaming).total

pub returns : goal.returns
returns c =
    let r = c.requires in
    let m = can_add c.args.parts.now c.args.i c.args.tree.now.epochs c.reserve.new.self.epochs c.args.entry.now c.get.result.now c.in-Of-Some.replica c.in-Of-Some.seq c.in-Of-Some.place c.in_ok-renaming.renaming c.in_ok-reserve.ensures.epochs r.tree_is r.entry_is r.few r.opens c.in-Of-Some.is-0 c.in-Of-Some.is-1 c.get.ensures.item c.in_ok-renaming.ensures.renaming in
    record { ok = subst (IsTreeBefore c.args.parts.now (c.args.i + 1)) (sym c.add.ensures.epochs) m.grown }
