use Rattle.std.proofs.Common.{◌≡◌}
use Rattle.rls_ops.specs.Waiting.{first_ready_at}
use Rattle.rls_causal.specs.Queues.{joined}
use Rattle.rls_causal.proofs.held.Held.first_ready.Given as goal

-- none of the queues before those to come has a ready one
abbrev pub invariant-loop-queue : goal.invariant-loop-queue
invariant-loop-queue l = first_ready_at l.vector (joined l.queue-iterator) ≡ first_ready_at l.vector l.self
