use Rattle.std.proofs.Common.{◌≡◌, ◌++◌, drop}
use Rattle.rls_world.proofs.world.copy_of.Given as goal

-- those from the index on are still to come
abbrev pub invariant-loop-i : goal.invariant-loop-i
invariant-loop-i l = l.ops ++ drop l.i l.message.ops ≡ l.message.ops
