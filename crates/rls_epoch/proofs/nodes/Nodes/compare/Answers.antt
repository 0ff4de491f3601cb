use Rattle.std.proofs.Common.{◌∙◌}
use Rattle.rls_epoch.specs.Links.{epoch_at}
use Rattle.rls_epoch.proofs.Meeting.{met_is}
use Rattle.rls_epoch.proofs.nodes.Nodes.compare.Goals as goal

pub returns : goal.returns
returns c =
    let ps = c.args.self.now.placed in
    let b = c.climb_both.ensures in
    record {
      order = c.compare_sides.ensures.order
          ∙ met_is c.args.self.now.top ps c.count-count.ensures.laid.nodes (epoch_at c.args.self.now.top ps c.args.a) (epoch_at c.args.self.now.top ps c.args.b) c.climb_both.result.0 c.climb_both.result.1 b.met b.two b.left b.right;
    }
