use Rattle.rls_rename.proofs.Replacing.{end_replaced}
use Rattle.rls_rename.proofs.pairing.Pairing.forward_head_above.Goals as goal

pub returns : goal.returns
returns c =
    let moved = rw c.in-Some.is at c.in_ok-moved.ensures.replaces in
    record { replaces = end_replaced c.args.self.now.first c.args.self.now.former c.args.head.now c.in_ok-a.a c.in-Some.moved c.args.gap c.args.self.now.increase c.requires.gap c.requires.end c.requires.some c.in_ok-a.ensures.found moved }
