use Rattle.std.proofs.Common.{arith}
use Rattle.rls_epoch.proofs.Jumping.{low_target}
use Rattle.rls_epoch.proofs.jumps.reach.Goals as goal

pub depth_of-requires-2 : goal.depth_of-requires-2
depth_of-requires-2 c = rw c.target_of.ensures.target record { within = let w = c.requires.within in let t = low_target c.args.jumps.now c.requires.low c.args.number w in omega (arith, w, t) }
