use Rattle.std.proofs.Common.{◌≡◌, ◌∙◌, ◌∷◌, Some, false, sym, ap, subst}
use Rattle.std.specs.Option.{option_map}
use Rattle.std.specs.Ordering.{is_lt}
use Rattle.rls_ident.specs.declared.epoch_name.EpochName.{EpochName}
use Rattle.rls_ident.specs.EpochNames.{name_eq}
use Rattle.rls_rename.specs.Tree.{has_node, epoch_cmp}
use Rattle.rls_epoch.specs.Climbing.{side_cmp}
use Rattle.rls_epoch.specs.Climbs.{below_or}
use Rattle.rls_epoch.specs.Links.{epoch_at}
use Rattle.rls_epoch.specs.Seen.{nodes_of}
use Rattle.rls_epoch.specs.Sorted.{place_name}
use Rattle.rls_epoch.proofs.Meeting.{opened_is}
use Rattle.rls_epoch.proofs.nodes.Nodes.opens_above.Goals as goal

pub returns : goal.returns
returns c = record {
  above = λ node p a.
      let ps = c.args.self.now.placed in
      let b = c.climb_both.ensures in
      let x = c.climb_both.result.0 in
      let y = c.climb_both.result.1 in
      let e = epoch_at c.args.self.now.top ps c.args.a in
      let apart = subst (λ (n : EpochName). name_eq n e ≡ false) (sym a.named) a.apart in
      let fresh = subst (λ (n : EpochName). has_node (nodes_of ps) n ≡ false) (sym a.named) a.fresh in
      c.is_before.ensures.before
      ∙ (ap (λ (n : EpochName). is_lt (side_cmp (option_map (place_name ps) x.below) (Some n))) (c.name_below.ensures.name ∙ ap (below_or ps y.below) (sym a.named))
      ∙ (ap is_lt (opened_is c.args.self.now.top ps c.count-count.ensures.laid.nodes e (epoch_at c.args.self.now.top ps c.args.parent) x y node apart fresh p b.met b.two b.left b.right)
      ∙ ap (λ (n : EpochName). is_lt (epoch_cmp (node ∷ nodes_of ps) e n)) a.named));
}
