use Rattle.std.proofs.Common.{ap}
use Rattle.rls_ident.specs.Tuples.{at_spot}
use Rattle.rls_parts.proofs.Neighbours.{last_is}
use Rattle.rls_parts.proofs.neighbour.Neighbour.last.Goals as goal

pub returns : goal.returns
returns c =
    record { last = last_is c.self.inside.first.now c.args.self.now c.self.inside.by c.self.view_is c.last.result c.raised.result c.last.ensures.last (ap at_spot c.raised.ensures.spot) }
