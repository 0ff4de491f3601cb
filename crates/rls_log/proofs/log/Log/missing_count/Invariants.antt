use Rattle.std.proofs.Common.{◌≡◌, ◌≤◌, length, take}
use Rattle.rls_ops.specs.Rows.{missing_for}
use Rattle.rls_log.proofs.log.Log.missing_count.Given as goal

abbrev pub invariant-loop-i : goal.invariant-loop-i
invariant-loop-i l = record { count : l.count ≡ length (missing_for l.vector (take l.i l.self)); few : l.count ≤ l.i }
