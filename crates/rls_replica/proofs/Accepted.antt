-- An operation that is accepted, part by part.
use Rattle.std.proofs.Common.{◌≡◌, ◌∙◌, ℕ, List, Option, Some, None, sym, ap, subst}
use Rattle.std.specs.Prelude.{IsSomeAnd}
use Rattle.rls_ident.proofs.Members.{some_is}
use Rattle.rls_runs.specs.Entries.{Entries}
use Rattle.rls_rename.specs.Tree.{Epochs}
use Rattle.rls_ops.specs.declared.op.Op.{Op}
use Rattle.rls_ops.specs.Rows.{AcksSeen, stable_of}
use Rattle.rls_ops.specs.Waiting.{first_ready_at, waiting_under, without}
use Rattle.rls_model.specs.declared.parts.Stem.{Stem}
use Rattle.rls_model.specs.Stems.{stems_after}
use Rattle.rls_seen.specs.Seen.{Seen, vector}
use Rattle.rls_seen.specs.Over.{accepted, acks_after, epochs_after, logged, text_after, first_ready, refusal_over}
use Rattle.rls_seen.specs.Sane.{IsSane, MayApply}
use Rattle.rls_seen.proofs.Repeating.{ready_under}
use Rattle.rls_seen.proofs.Staying.{ready_may}

of_parts : ℕ → AcksSeen → List Stem → Epochs → Entries → List Op → List Op → Seen
of_parts g acks ss E es W log = record { group = g; acks = acks; stems = ss; epochs = E; text = es; waiting = W; log = log }

pub accepted_is : (s : Seen) (o : Op) (acks : AcksSeen) (ss : List Stem) (E : Epochs) (es : Entries) (W log : List Op) → acks ≡ acks_after s.acks o.author o.body → ss ≡ stems_after s.stems o.author o.seq o.body
    → E ≡ epochs_after s.epochs o → es ≡ text_after s o o.body → W ≡ without o.author o.seq s.waiting → log ≡ logged (stable_of acks) s.log o
    → record { group = s.group; acks = acks; stems = ss; epochs = E; text = es; waiting = W; log = log } ≡ accepted s o
unfolding of_parts accepted
accepted_is s o acks ss E es W log a b c d e f =
    ap (λ x. of_parts s.group x ss E es W log) a
    ∙ (ap (λ x. of_parts s.group (acks_after s.acks o.author o.body) x E es W log) b
    ∙ (ap (λ x. of_parts s.group (acks_after s.acks o.author o.body) (stems_after s.stems o.author o.seq o.body) x es W log) c
    ∙ (ap (λ x. of_parts s.group (acks_after s.acks o.author o.body) (stems_after s.stems o.author o.seq o.body) (epochs_after s.epochs o) x W log) d
    ∙ (ap (λ x. of_parts s.group (acks_after s.acks o.author o.body) (stems_after s.stems o.author o.seq o.body) (epochs_after s.epochs o) (text_after s o o.body) x log) e
    ∙ ap (of_parts s.group (acks_after s.acks o.author o.body) (stems_after s.stems o.author o.seq o.body) (epochs_after s.epochs o) (text_after s o o.body) (without o.author o.seq s.waiting))
    (f ∙ ap (λ x. logged (stable_of x) s.log o) a)))))

-- the first ready operation, which fits
pub record IsNext (s : Seen) (w : Op) : Type 0 where
  pub first : first_ready s ≡ Some w
  pub fits : refusal_over s w ≡ None
  pub may : MayApply s w
  pub under : waiting_under s.waiting w.author w.seq ≡ Some w

fits_at : (s : Seen) (w : Op) (r : Option Op) → r ≡ Some w → IsSomeAnd r (λ x. refusal_over s x ≡ None) → refusal_over s w ≡ None
fits_at s w None e h = absurd (cc)
fits_at s w (Some x) e h = subst (λ y. refusal_over s y ≡ None) (some_is x w e) h

pub next_is : (i s : Seen) (v : List ℕ) (w : Op) → i ≡ s → IsSane i → v ≡ vector i → Some w ≡ first_ready_at v i.waiting → IsSomeAnd (first_ready s) (λ x. refusal_over s x ≡ None) → IsNext i w
next_is i s v w e sane k h f =
    let first : first_ready i ≡ Some w = sym (h ∙ ap (λ u. first_ready_at u i.waiting) k) in
    let fits : refusal_over i w ≡ None = fits_at i w (first_ready i) first (subst (λ x. IsSomeAnd (first_ready x) (λ y. refusal_over x y ≡ None)) (sym e) f) in
    record { first = first; fits = fits; may = ready_may i w sane first fits; under = ready_under i w sane first }

-- the one that is taken out is this one
pub same_one : (w x : Op) (r : Option Op) → r ≡ Some w → r ≡ Some x → x ≡ w
same_one w x r h k = some_is x w (sym k ∙ h)

pub next_taken : (i s : Seen) (v : List ℕ) (w x : Op) (r : Option Op) → i ≡ s → IsSane i → v ≡ vector i → Some w ≡ first_ready_at v i.waiting → IsSomeAnd (first_ready s) (λ x. refusal_over s x ≡ None)
    → r ≡ waiting_under i.waiting w.author w.seq → r ≡ Some x → x ≡ w
next_taken i s v w x r e sane k h f u g = same_one w x r (u ∙ (next_is i s v w e sane k h f).under) g
