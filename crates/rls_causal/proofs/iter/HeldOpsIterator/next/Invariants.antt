use Rattle.std.proofs.Common.{◌≡◌, ◌++◌, [], length}
use Rattle.std.specs.Option.{unwrap_or}
use Rattle.rls_causal.specs.Queues.{joined}
use Rattle.rls_causal.proofs.iter.HeldOpsIterator.next.Given as goal

-- the operations to come are the same
abbrev pub invariant-loop-ops : goal.invariant-loop-ops
invariant-loop-ops l = unwrap_or l.self-inside.ops [] ++ joined l.self-inside.queues ≡ l.fn.self

-- how many queues are to come
abbrev pub decreases-loop-ops : goal.decreases-loop-ops
decreases-loop-ops l = length l.self-inside.queues
