use Rattle.rls_epoch.proofs.Steps.{way_is}
use Rattle.rls_epoch.proofs.tree.Tree.way_between.Goals as goal

pub returns : goal.returns
returns c =
    record {
      way = way_is c.args.self.now.nodes.top c.args.self.now.nodes.placed c.count-count.ensures.laid.nodes c.count-count.ensures.laid.below c.count-count.ensures.laid.links c.number_of-left.result c.number_of-right.result c.args.from c.args.to c.number_of-left.ensures.number c.number_of-right.ensures.number c.way.result c.way.ensures.way;
    }
