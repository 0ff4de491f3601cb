use Rattle.rls_epoch.proofs.Meeting.{named_at}
use Rattle.rls_epoch.proofs.Steps.{way_is}
use Rattle.rls_epoch.specs.Links.{epoch_at}
use Rattle.rls_epoch.proofs.nodes.Nodes.way_from.Goals as goal

pub returns : goal.returns
returns c =
    let top = c.args.self.now.top in
    let ps = c.args.self.now.placed in
    let l = c.count-count.ensures.laid in
    record {
      way = way_is top ps l.nodes l.below l.links c.args.from c.args.to (epoch_at top ps c.args.from) (epoch_at top ps c.args.to) (named_at top ps c.args.from c.requires.from) (named_at top ps c.args.to c.requires.to) c.way.result c.way.ensures.way;
    }
