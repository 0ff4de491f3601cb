use Rattle.std.proofs.Common.{◌≡◌, ◌∙◌, Some, ap, sym}
use Rattle.rls_ops.specs.Waiting.{first_ready_at}
use Rattle.rls_seen.specs.Over.{first_ready}
use Rattle.rls_seen.proofs.Staying.{ready}
use Rattle.rls_replica.specs.View.{seen}
use Rattle.rls_replica.proofs.Marking.{of_context}
use Rattle.rls_replica.proofs.replica.Replica.learn_ready.Goals as goal

pub learn_targets-requires : goal.learn_targets-requires
learn_targets-requires c =
    let i = seen c.self.inside in
    let w = c.in-Some.op.now in
    let first : first_ready i ≡ Some w = sym (c.in-Some.ensures.ready ∙ ap (λ u. first_ready_at u i.waiting) c.mine.ensures.mine) in
    record { members = of_context i c.self.invariant.sane w (ready i w c.self.invariant.sane first).held.shape }
