use Rattle.std.proofs.Common.{◌≡◌, ◌++◌, take}
use Rattle.std.specs.List.{flat_map}
use Rattle.rls_ops.specs.Rows.{missing_for}
use Rattle.rls_ops.specs.Spelling.{op_bytes}
use Rattle.rls_log.proofs.log.Log.put_missing.Given as goal

abbrev pub invariant-loop-i : goal.invariant-loop-i
invariant-loop-i l = l.out.items ≡ l.fn.out.items ++ flat_map op_bytes (missing_for l.vector (take l.i l.self))
