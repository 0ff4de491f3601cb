use Rattle.std.proofs.Common.{◌≡◌, take}
use Rattle.rls_ops.specs.Rows.{missing_for}
use Rattle.rls_log.proofs.log.Log.missing_before.Given as goal

-- those so far
abbrev pub invariant-loop-i : goal.invariant-loop-i
invariant-loop-i l = l.ops ≡ missing_for l.vector (take l.i l.self)
