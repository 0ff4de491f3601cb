use Rattle.std.proofs.Common.{◌-◌, ℕ, List, Some, sym, ap, ◌∙◌, arith}
use Rattle.std.specs.Prelude.{slice_get}
use Rattle.std.specs.Option.{option_map}
use Rattle.rls_ident.specs.declared.epoch_name.EpochName.{EpochName}
use Rattle.rls_rename.specs.Tree.{Node, Epochs}
use Rattle.rls_epoch.specs.Links.{epoch_at}
use Rattle.rls_epoch.specs.Seen.{nodes_of, rising_epochs}
use Rattle.rls_epoch.proofs.Found.{up_earlier}
use Rattle.rls_epoch.proofs.Left.{rising_is}
use Rattle.rls_epoch.proofs.Listed.{node_first, parent_found}
use Rattle.rls_epoch.proofs.tree.Tree.parent_place.Goals as goal

pub returns-then-number-eq0-clause-parent : goal.returns-then-number-eq0-clause-parent
returns-then-number-eq0-clause-parent c = ap (option_map (λ (node : Node). Some node.parent)) (sym (node_first c.args.self.now.nodes.top c.args.self.now.nodes.placed c.count-count.ensures.laid c.args.number c.if-number-eq0.true))

pub place_at-requires : goal.place_at-requires
place_at-requires c =
    let n = c.if-number-eq0.false in
    let w = c.requires.within in
    let e = up_earlier c.args.self.now.nodes.top c.args.self.now.nodes.placed c.count-count.ensures.laid (c.args.number - 1) (omega arith) in
    let u = c.up_of.ensures.up in
    record { within = omega arith }

pub returns-clause-parent : goal.returns-clause-parent
returns-clause-parent c =
    let top = c.args.self.now.nodes.top in
    let ps = c.args.self.now.nodes.placed in
    let l = c.count-count.ensures.laid in
    let E : Epochs = record { top = top; nodes = nodes_of ps } in
    let read = ap (λ (es : List EpochName). slice_get es c.place_at.result) (rising_is l c.args.self.now.order_is) ∙ c.place_at.ensures.place in
    parent_found top ps l c.args.number (slice_get (rising_epochs E) c.place_at.result) c.if-number-eq0.false c.requires.within (read ∙ ap (λ (j : ℕ). Some (epoch_at top ps j)) c.up_of.ensures.up)
