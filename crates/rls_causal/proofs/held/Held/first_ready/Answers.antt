use Rattle.std.proofs.Common.{sym, ap, ◌∙◌}
use Rattle.std.specs.Option.{option_or}
use Rattle.rls_ops.specs.Waiting.{first_ready_at}
use Rattle.rls_causal.specs.Queues.{joined}
use Rattle.rls_causal.proofs.Queues.{ready_in}
use Rattle.rls_causal.proofs.held.Held.first_ready.Goals as goal

pub returns-in-Some-first_ready : goal.returns-in-Some-first_ready
returns-in-Some-first_ready c =
    let v = c.args.vector.now in
    record { ready = ap (λ r. option_or r (first_ready_at v (joined c.next.new.self))) c.in-Some-first_ready.ensures.ready ∙ sym (ready_in v c.in-Some.queue.now c.next.new.self c.loop-queue.queue-iterator c.in-Some.ensures.steps) ∙ c.loop-queue.invariant }

pub loop-queue-preserved : goal.loop-queue-preserved
loop-queue-preserved c =
    let v = c.args.vector.now in
    ap (λ r. option_or r (first_ready_at v (joined c.next.new.self))) c.in_default.ensures.ready ∙ sym (ready_in v c.in-Some.queue.now c.next.new.self c.loop-queue.queue-iterator c.in-Some.ensures.steps) ∙ c.loop-queue.invariant
