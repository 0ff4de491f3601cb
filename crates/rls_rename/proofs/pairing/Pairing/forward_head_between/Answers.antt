use Rattle.rls_rename.proofs.GapImages.{neighbours}
use Rattle.rls_rename.proofs.Replacing.{forward_replaced}
use Rattle.rls_rename.proofs.pairing.Pairing.forward_head_between.Goals as goal

pub head_between-requires : goal.head_between-requires
head_between-requires c = record { less = neighbours c.args.self.now.former c.args.gap c.in_ok-a.a c.in_ok-b.b c.args.self.now.increase c.requires.some c.in_ok-a.ensures.found c.in_ok-b.ensures.found }

pub returns : goal.returns
returns c =
    let below = rw c.in-Some.is at c.in_ok-inner.ensures.below in
    let inner = rw c.in-Some.is at c.in_ok-inner.ensures.replaces in
    let z = forward_replaced c.args.self.now.first c.args.self.now.former c.args.head.now c.in_ok-a.a c.in_ok-b.b c.in-Some.inner c.args.gap c.args.self.now.increase c.requires.gap c.requires.some c.in_ok-a.ensures.found c.in_ok-b.ensures.found below inner in
    record { replaces = rw (c.in_ok-prefixed.ensures.prefixed, c.tuple_at.ensures.tuple) z }
