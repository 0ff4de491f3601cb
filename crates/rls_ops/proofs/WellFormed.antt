-- Well formed operations in lists.
use Rattle.std.proofs.Common.{List, [], ◌∷◌, ◌++◌}
use Rattle.rls_ops.specs.declared.op.Op.{Op}
use Rattle.rls_ops.specs.WellFormed.{IsOp, AreOps}

-- one more after the others
pub ops_more : (os : List Op) (o : Op) → AreOps os → IsOp o → AreOps (os ++ o ∷ [])
ops_more [] o a h = (h, tt)
ops_more (x ∷ os) o a h = (a.0, ops_more os o a.1 h)
