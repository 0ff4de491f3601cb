use Rattle.std.proofs.Common.{◌≡◌, Some, None, length, sym, ap, ◌∙◌, arith}
use Rattle.std.specs.Map.{values_of}
use Rattle.rls_ops.specs.Waiting.{waiting_under, without}
use Rattle.rls_causal.specs.Queues.{joined}
use Rattle.rls_causal.proofs.Putting.{without_none}
use Rattle.rls_causal.proofs.Queued.{length-without_one}
use Rattle.rls_causal.proofs.Queues.{IsTaken, taken, found_under}
use Rattle.rls_causal.proofs.held.Held.remove.Goals as goal

-- no queue of the author

pub returns-in_err-queue-clause-found : goal.returns-in_err-queue-clause-found
returns-in_err-queue-clause-found c =
    c.from_residual.ensures ∙ found_under c.args.author c.args.seq _ _ _ c.self.invariant.queues c.self.view_is c.in_err-queue.ensures.value

pub returns-in_err-queue-clause-others : goal.returns-in_err-queue-clause-others
returns-in_err-queue-clause-others c =
    let none = sym (found_under c.args.author c.args.seq _ _ _ c.self.invariant.queues c.self.view_is c.in_err-queue.ensures.value) in
    ap (λ m. joined (values_of m.entries)) c.get_mut.follows.holds-at-none ∙ c.self.view_is ∙ sym (without_none c.args.author c.args.seq c.args.self.now none)

-- nothing under the number in the queue of the author

nothing : (c : goal.After-from_residual-in_err-op) → IsTaken c.args.author c.args.seq c.self.inside.queues.entries (c.get_mut.follows.lender c.take_out.new.self).entries None
nothing c =
    taken c.args.author c.self.inside.queues.entries (c.get_mut.follows.lender c.take_out.new.self).entries c.in_ok-queue.queue.now c.take_out.new.self c.self.invariant.queues (sym c.in_ok-queue.ensures.value) (c.get_mut.follows.holds c.take_out.new.self).0
    c.args.seq None (c.in_err-op.ensures.found c.args.author) (c.take_out.ensures.others c.args.author)

pub invariant_of-self-in_err-op : goal.invariant_of-self-in_err-op
invariant_of-self-in_err-op c =
    let all = joined (values_of c.self.inside.queues.entries) in
    record { queues = (nothing c).queues; len = c.self.invariant.len ∙ ap length (sym ((nothing c).others ∙ without_none c.args.author c.args.seq all (sym (nothing c).under))) }

pub returns-in_err-op-clause-found : goal.returns-in_err-op-clause-found
returns-in_err-op-clause-found c = c.from_residual-in_err-op.ensures ∙ (nothing c).under ∙ ap (λ U. waiting_under U c.args.author c.args.seq) c.self.view_is

pub returns-in_err-op-clause-others : goal.returns-in_err-op-clause-others
returns-in_err-op-clause-others c = (nothing c).others ∙ ap (without c.args.author c.args.seq) c.self.view_is

-- an operation

pub overflow_sub-self : goal.overflow_sub-self
overflow_sub-self c =
    let t = taken c.args.author c.self.inside.queues.entries (c.get_mut.follows.lender c.take_out.new.self).entries c.in_ok-queue.queue.now c.take_out.new.self c.self.invariant.queues (sym c.in_ok-queue.ensures.value) (c.get_mut.follows.holds c.take_out.new.self).0
    c.args.seq (Some c.in_ok-op.op) (c.in_ok-op.ensures.found c.args.author) (c.take_out.ensures.others c.args.author) in
    let one = length-without_one c.args.author c.args.seq c.in_ok-op.op (joined (values_of c.self.inside.queues.entries)) c.self.invariant.queues.order (sym t.under) in
    omega (arith, one, c.self.invariant.len)

something : (c : goal.After-self-3-1) → IsTaken c.args.author c.args.seq c.self.inside.queues.entries (c.get_mut.follows.lender c.take_out.new.self).entries (Some c.in_ok-op.op)
something c =
    taken c.args.author c.self.inside.queues.entries (c.get_mut.follows.lender c.take_out.new.self).entries c.in_ok-queue.queue.now c.take_out.new.self c.self.invariant.queues (sym c.in_ok-queue.ensures.value) (c.get_mut.follows.holds c.take_out.new.self).0
    c.args.seq (Some c.in_ok-op.op) (c.in_ok-op.ensures.found c.args.author) (c.take_out.ensures.others c.args.author)

pub invariant_of-self-2 : goal.invariant_of-self-2
invariant_of-self-2 c =
    let one = length-without_one c.args.author c.args.seq c.in_ok-op.op (joined (values_of c.self.inside.queues.entries)) c.self.invariant.queues.order (sym (something c).under) in
    let left = ap length (something c).others in
    record { queues = (something c).queues; len = omega (arith, one, left, c.self.invariant.len) }

pub returns-clause-found : goal.returns-clause-found
returns-clause-found c = (something c).under ∙ ap (λ U. waiting_under U c.args.author c.args.seq) c.self.view_is

pub returns-clause-others : goal.returns-clause-others
returns-clause-others c = (something c).others ∙ ap (without c.args.author c.args.seq) c.self.view_is
