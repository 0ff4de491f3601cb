-- The operation that an edit makes stands in the history after it, whatever is released then.
use Rattle.std.proofs.Common.{[], ◌∷◌, length, refl, sym, subst, inl}
use Rattle.std.specs.Prelude.{if◌then◌else◌, Option, Some, None}
use Rattle.rls_ident.specs.Lists.{IsIn}
use Rattle.rls_ident.proofs.Members.{in_left, in_right}
use Rattle.rls_ops.specs.declared.op.Op.{Op}
use Rattle.rls_model.specs.Answers.{Reason}
use Rattle.rls_model.specs.History.{ops}
use Rattle.rls_model.specs.Fitting.{refusal}
use Rattle.rls_model.specs.Receiving.{State, accept, first_ready, after_refusal, after_release, release_after}
use Rattle.rls_model.specs.Editing.{made}
use Rattle.rls_model.specs.Taking.{by_history, started, moved}
use Rattle.rls_model.specs.EditRun.{edit_step, edit_within}
use Rattle.rls_model.specs.Laws.{EditApplied}
use Rattle.rls_model.proofs.Machines.{states_after_releases}

-- a release takes nothing out of the history
stays_after : (s : State) (o : Op) → IsIn o (ops s.history) → IsIn o (ops (release_after s).history)
stays_after s o p = ready (first_ready s)
  where
    ready : (w : Option Op) → IsIn o (ops (after_release s w).history)
    ready None = p
    ready (Some w) = fits (refusal s.history w)
      where
        fits : (r : Option Reason) → IsIn o (ops (after_refusal r s w).history)
        fits None = in_left o (ops s.history) (w ∷ []) p
        fits (Some r) = p

pub edit_applied : EditApplied
unfolding edit_within
edit_applied s edit limit h =
    let p = edit_step (started limit s) edit in
    let o = made s.history edit in
    states_after_releases by_history (λ t. IsIn o (ops t.history)) (λ t q. stays_after t o q) (length (p.state).waiting) p
    (subst (λ b. IsIn (made s.history edit) (ops ((if b then moved (started limit s) (accept s (made s.history edit)) else started limit s).state).history)) (sym h)
    (in_right (made s.history edit) (ops s.history) (made s.history edit ∷ []) (inl refl)))
