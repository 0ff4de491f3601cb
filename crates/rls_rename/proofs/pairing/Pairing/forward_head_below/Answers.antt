use Rattle.rls_rename.proofs.Replacing.{first_replaced}
use Rattle.rls_rename.proofs.pairing.Pairing.forward_head_below.Goals as goal

pub returns : goal.returns
returns c =
    let below = rw c.in-Some.is at c.in_ok-moved.ensures.below in
    let moved = rw c.in-Some.is at c.in_ok-moved.ensures.replaces in
    record { replaces = first_replaced c.args.self.now.first c.args.self.now.former c.args.head.now c.in_ok-a.a c.in-Some.moved c.in_ok-a.ensures.found below moved }
