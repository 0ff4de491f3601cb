use Rattle.std.proofs.Common.{◌≡◌, ◌∙◌, None, Some, ap, sym, subst}
use Rattle.rls_ops.specs.Shapes.{shape_fault}
use Rattle.rls_ops.specs.Waiting.{first_ready_at}
use Rattle.rls_seen.specs.Seen.{Seen, members}
use Rattle.rls_seen.specs.Over.{first_ready, refusal_over}
use Rattle.rls_seen.specs.Sane.{IsSane}
use Rattle.rls_seen.proofs.Staying.{ready, ready_may}
use Rattle.rls_replica.specs.View.{seen}
use Rattle.rls_replica.proofs.Told.{no_reason}
use Rattle.rls_replica.proofs.replica.Replica.look_ready.Goals as goal

pub refusal-requires : goal.refusal-requires
refusal-requires g c =
    let i = seen c.self.inside in
    let w = c.in-Some.op.now in
    let first : first_ready i ≡ Some w = sym (c.in-Some.ensures.ready ∙ ap (λ u. first_ready_at u i.waiting) c.mine.ensures.mine) in
    record { shape = subst (λ (s : Seen). shape_fault (members s) w ≡ None) c.self.view_is (ready i w c.self.invariant.sane first).held.shape }

pub show-requires : goal.show-requires
show-requires g c =
    let i = seen c.self.inside in
    let s = c.args.self.now in
    let w = c.in-Some.op.now in
    let first : first_ready i ≡ Some w = sym (c.in-Some.ensures.ready ∙ ap (λ u. first_ready_at u i.waiting) c.mine.ensures.mine) in
    let here : first_ready s ≡ Some w = subst (λ (u : Seen). first_ready u ≡ Some w) c.self.view_is first in
    let fits : refusal_over s w ≡ None = sym c.in_ok-refusal.ensures.refusal ∙ no_reason c.in_ok-refusal.refusal c.is_none.result c.is_none.ensures c.if-is_none.true in
    record { may = ready_may s w (subst IsSane c.self.view_is c.self.invariant.sane) here fits }
