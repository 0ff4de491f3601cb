use Rattle.std.proofs.Common.{◌≡◌, map, take}
use Rattle.rls_ops.specs.declared.op.Op.{Op}
use Rattle.rls_parts.proofs.retained.epochs_of_ops.Given as goal

-- those so far
abbrev pub invariant-loop-i : goal.invariant-loop-i
invariant-loop-i l = l.names.items ≡ map (λ (o : Op). o.epoch) (take l.i l.ops)
