use Rattle.rls_rename.proofs.Ways.{head_way}
use Rattle.rls_rename.proofs.renaming.Renaming.forward_head.Goals as goal

pub returns : goal.returns
returns c =
    let replaces = rw c.in-Some.is at c.in_ok-moved.ensures.replaces in
    record { replaces = head_way c.self.inside.pairing.first c.self.inside.pairing.former c.self.invariant.0 c.self.invariant.1 c.args.self.now c.self.view_is c.args.head.now 0 c.in-Some.moved 0 replaces }
