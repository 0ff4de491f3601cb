-- What holds of each operation of a log.
use Rattle.std.specs.Prelude.{List, [], ◌∷◌}
use Rattle.rls_ops.specs.declared.op.Op.{Op}
use Rattle.rls_ops.specs.WellFormed.{IsInRange, IsOp}

-- each operation is well formed, with its first offset in range
abbrev pub AreFit : List Op → Type 0
AreFit [] = Unit {0}
AreFit (o ∷ os) = IsOp o × IsInRange o.body × AreFit os
