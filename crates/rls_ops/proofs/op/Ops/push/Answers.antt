use Rattle.std.proofs.Common.{subst, sym}
use Rattle.rls_ops.specs.WellFormed.{AreOps}
use Rattle.rls_ops.proofs.WellFormed.{ops_more}
use Rattle.rls_ops.proofs.op.Ops.push.Goals as goal

pub invariant_of-self-2 : goal.invariant_of-self-2
invariant_of-self-2 c = subst AreOps (sym c.in_ok-push.ensures.items) (ops_more _ _ c.self.invariant c.fits.ensures.whole)
