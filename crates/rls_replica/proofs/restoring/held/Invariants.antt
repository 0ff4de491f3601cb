use Rattle.std.proofs.Common.{◌≡◌, take}
use Rattle.rls_replica.proofs.restoring.held.Given as goal

-- of those so far
abbrev pub invariant-loop-op : goal.invariant-loop-op
invariant-loop-op l = l.held ≡ take l.op-index l.ops
