use Rattle.std.proofs.Common.{◌≡◌, ◌∙◌, ◌∷◌, true, false, refl, sym, ap, subst}
use Rattle.std.specs.Ordering.{is_lt}
use Rattle.rls_ident.specs.declared.epoch_name.EpochName.{EpochName}
use Rattle.rls_ident.specs.declared.epoch_name.EpochName.TheVariants.{Of}
use Rattle.rls_ident.specs.EpochNames.{name_eq}
use Rattle.rls_ident.proofs.Members.{or_false}
use Rattle.rls_rename.specs.Tree.{Node, Epochs, has_node, is_kept, epoch_cmp, greatest, AreNodes, AreBelow}
use Rattle.rls_rename.proofs.Kept.{greatest_kept}
use Rattle.rls_epoch.specs.Links.{epoch_at}
use Rattle.rls_epoch.specs.Seen.{EpochsSeen, nodes_of, OpensGreatest}
use Rattle.rls_epoch.proofs.Opened.{apart, greatest_opened}
use Rattle.rls_epoch.proofs.epochs.Epochs.opens_greatest.Goals as goal

pub number_of-last-requires : goal.number_of-last-requires
number_of-last-requires c = record { kept = rw (c.greatest.ensures.greatest, ← c.self.view_is) (greatest_kept c.self.inside.tree.nodes.top (nodes_of c.self.inside.tree.nodes.placed)) }

pub returns : goal.returns
returns c = record {
  greatest = λ former f.
      let top = c.self.inside.tree.nodes.top in
      let ps = c.self.inside.tree.nodes.placed in
      let ns = nodes_of ps in
      let n : EpochName = Of c.args.replica c.args.seq in
      let node : Node = record { parent = c.args.parent; renaming = record { former = former; replica = c.args.replica; seq = c.args.seq } } in
      let e : c.args.self.now.epochs ≡ record { top = top; nodes = ns } = sym (ap (λ (v : EpochsSeen). v.epochs) c.self.view_is) in
      let fresh : is_kept top ns n ≡ false = subst (λ (E : Epochs). is_kept E.top E.nodes n ≡ false) e c.requires.fresh in
      let parent : is_kept top ns c.args.parent ≡ true = subst (λ (E : Epochs). is_kept E.top E.nodes c.args.parent ≡ true) e c.requires.parent in
      let last : epoch_at top ps c.number_of-last.result ≡ greatest top ns = c.number_of-last.ensures.epoch ∙ (c.greatest.ensures.greatest ∙ ap (λ (E : Epochs). greatest E.top E.nodes) e) in
      let two = or_false (name_eq n top) (has_node ns n) fresh in
      let d : AreNodes (node ∷ ns) = (f, two.1, c.self.invariant.laid.nodes) in
      let b : AreBelow top (node ∷ ns) = (parent, two.0, c.self.invariant.laid.below) in
      let kept : is_kept top ns (epoch_at top ps c.number_of-last.result) ≡ true = ap (is_kept top ns) last ∙ greatest_kept top ns in
      subst (λ (E : Epochs). OpensGreatest c.opens_above.result E c.args.parent node.renaming) (sym e)
      (c.opens_above.ensures.above node (sym c.number_of-up.ensures.epoch) (record { named = refl; apart = apart top ns n (epoch_at top ps c.number_of-last.result) fresh kept; fresh = two.1 })
      ∙ (ap (λ (g : EpochName). is_lt (epoch_cmp (node ∷ ns) g n)) last ∙ greatest_opened top node ns d b));
}
