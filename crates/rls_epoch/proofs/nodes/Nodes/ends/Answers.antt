use Rattle.std.proofs.Common.{◌∙◌, sym, ap}
use Rattle.rls_ident.specs.declared.epoch_name.EpochName.{EpochName}
use Rattle.rls_rename.specs.Tree.{translate}
use Rattle.rls_epoch.specs.Seen.{nodes_of}
use Rattle.rls_epoch.proofs.Reading.{name_read}
use Rattle.rls_epoch.proofs.Steps.{back_goes, forward_goes}
use Rattle.rls_epoch.proofs.nodes.Nodes.ends.Goals as goal

pub returns-in-Back : goal.returns-in-Back
returns-in-Back c =
    let ps = c.args.self.now.placed in
    let l = c.count-count.ensures.laid in
    let k = c.in-Back.place in
    let p = c.at.result.now in
    let g = c.at.ensures.node in
    rw c.in-Back.is record {
      step = λ x i. back_goes c.args.self.now.top ps l.nodes l.below l.links k p g x i ∙ ap (λ (e : EpochName). translate (nodes_of ps) e p.parent x) (sym (c.name_of.ensures.name ∙ name_read ps k p g));
    }

pub returns-in-Forward : goal.returns-in-Forward
returns-in-Forward c =
    let ps = c.args.self.now.placed in
    let l = c.count-count.ensures.laid in
    let k = c.in-Forward.place in
    let p = c.at-in-Forward.result.now in
    let g = c.at-in-Forward.ensures.node in
    rw c.in-Forward.is record {
      step = λ x i. forward_goes c.args.self.now.top ps l.nodes l.below l.links k p g x i ∙ ap (λ (e : EpochName). translate (nodes_of ps) p.parent e x) (sym (c.name_of-in-Forward.ensures.name ∙ name_read ps k p g));
    }
