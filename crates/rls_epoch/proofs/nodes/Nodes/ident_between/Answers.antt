use Rattle.std.proofs.Common.{ℕ}
use Rattle.rls_ident.specs.declared.epoch_name.EpochName.{EpochName}
use Rattle.rls_rename.specs.Tree.{translate}
use Rattle.rls_epoch.specs.Links.{epoch_at}
use Rattle.rls_epoch.specs.Seen.{nodes_of}
use Rattle.rls_epoch.proofs.Between.{ident_goes_on}
use Rattle.rls_epoch.proofs.nodes.Nodes.ident_between.Goals as goal

pub loop-doublings-preserved : goal.loop-doublings-preserved
loop-doublings-preserved c =
    let s = c.args.self.now in
    let at : ℕ → EpochName = epoch_at s.top s.placed in
    record {
      within = c.number_along-next.ensures.within;
      there = ident_goes_on (nodes_of s.placed) c.count-count.ensures.laid.nodes (at c.loop-doublings.at) (at c.number_along-next.result) (at c.args.to) c.loop-doublings.there c.in_ok-there-2.there (translate (nodes_of s.placed) (at c.args.from) (at c.args.to) c.args.id.now) c.len-len.ensures.ident c.in_ok-there-2.ensures.translated c.loop-doublings.invariant.there;
    }
