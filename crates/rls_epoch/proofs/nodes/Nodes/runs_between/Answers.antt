use Rattle.std.proofs.Common.{ℕ, map}
use Rattle.rls_ident.specs.declared.epoch_name.EpochName.{EpochName}
use Rattle.rls_rename.specs.Tree.{translate}
use Rattle.rls_epoch.specs.Links.{epoch_at}
use Rattle.rls_epoch.specs.Seen.{nodes_of}
use Rattle.rls_epoch.proofs.Between.{runs_go_on}
use Rattle.rls_epoch.proofs.nodes.Nodes.runs_between.Goals as goal

pub loop-doublings-preserved : goal.loop-doublings-preserved
loop-doublings-preserved c =
    let s = c.args.self.now in
    let at : ℕ → EpochName = epoch_at s.top s.placed in
    record {
      within = c.number_along-next.ensures.within;
      there = runs_go_on (nodes_of s.placed) c.count-count.ensures.laid.nodes (at c.loop-doublings.at) (at c.number_along-next.result) (at c.args.to) c.loop-doublings.there c.in_ok-there-2.there (map (translate (nodes_of s.placed) (at c.args.from) (at c.args.to)) c.args.ids.now) (c.total-total.ensures.idents).0 c.in_ok-there-2.ensures.translated c.loop-doublings.invariant.there;
    }
