use Rattle.rls_ident.proofs.Vectors.{length-raise}
use Rattle.rls_replica.proofs.applying.count.Goals as goal

pub leave-requires : goal.leave-requires
leave-requires c = record { member = rw (c.raise.ensures.raised, length-raise c.args.acks.now.mine c.args.op.now.author) c.requires.member }
