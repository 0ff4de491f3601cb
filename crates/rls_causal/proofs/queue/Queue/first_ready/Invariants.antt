use Rattle.rls_causal.proofs.Ready.{Searched}
use Rattle.rls_causal.proofs.queue.Queue.first_ready.Given as goal

-- none before those to come is ready
abbrev pub invariant-loop-waiting : goal.invariant-loop-waiting
invariant-loop-waiting l = Searched l.vector l.self l.waiting-iterator
