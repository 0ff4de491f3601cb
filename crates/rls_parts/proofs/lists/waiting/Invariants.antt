use Rattle.std.proofs.Common.{◌≡◌, ◌++◌}
use Rattle.rls_parts.proofs.lists.waiting.Given as goal

-- the others are still to come
abbrev pub invariant-loop-op : goal.invariant-loop-op
invariant-loop-op l = l.ops ++ l.op-iterator ≡ l.held
