use Rattle.std.proofs.Common.{arith}
use Rattle.rls_epoch.proofs.Jumping.{low_target}
use Rattle.rls_epoch.proofs.jumps.next_jump.Goals as goal

pub target_of-far-requires : goal.target_of-far-requires
target_of-far-requires c = rw c.target_of-near.ensures.target record { within = let w = c.requires.within in let t = low_target c.args.jumps.now c.requires.low c.args.up w in omega (arith, w, t) }
