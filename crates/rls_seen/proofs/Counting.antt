-- The count of members stays.
use Rattle.std.proofs.Common.{◌≡◌, ℕ, Bool, true, false, cond, List, length, refl, ap, ◌∙◌, Option, Some, None}
use Rattle.rls_ident.proofs.Vectors.{length-raise}
use Rattle.rls_ops.specs.declared.op.Op.{Op}
use Rattle.rls_ops.specs.Rows.{noted}
use Rattle.rls_ops.specs.Rows as rows
use Rattle.rls_model.specs.Answers.{Reason, Answer, Applies, Repeats, Waits, Refuses}
use Rattle.rls_model.specs.MachineLaws.{StepsKeep}
use Rattle.rls_seen.specs.Messages.{by_parts}
use Rattle.rls_seen.specs.Seen.{Seen, members}
use Rattle.rls_seen.specs.Over.{accepted, holding, after_answer, answer_over, received, refusal_over, first_ready, after_refusal, after_release, released, acknowledged}
use Rattle.rls_seen.proofs.Accepting.{acks_mine}

pub members_accepted : (s : Seen) (o : Op) → members (accepted s o) ≡ members s
unfolding accepted
members_accepted s o = ap length (acks_mine s.acks o.author o.body) ∙ length-raise s.acks.mine o.author

members_answer : (a : Answer) (s : Seen) (o : Op) → members (after_answer a s o) ≡ members s
unfolding holding
members_answer Applies s o = members_accepted s o
members_answer Waits s o = refl
members_answer Repeats s o = refl
members_answer (Refuses r) s o = refl

pub members_received : (s : Seen) (o : Op) → members (received s o) ≡ members s
unfolding received
members_received s o = members_answer (answer_over false s o) s o

members_refusal : (r : Option Reason) (s : Seen) (w : Op) → members (after_refusal r s w) ≡ members s
unfolding holding
members_refusal None s w = members_accepted s w
members_refusal (Some r) s w = refl

pub members_released : (s : Seen) → members (released s) ≡ members s
unfolding released
members_released s = go (first_ready s)
  where
    go : (o : Option Op) → members (after_release s o) ≡ members s
    go None = refl
    go (Some w) = members_refusal (refusal_over s w) s w

pub members_acknowledged : (s : Seen) (a : ℕ) (v : List ℕ) → members (acknowledged s a v) ≡ members s
unfolding acknowledged
members_acknowledged s a v = go (rows.counts s.acks a v)
  where
    go : (b : Bool) → length (cond b (noted s.acks a v) s.acks).mine ≡ length s.acks.mine
    go true = refl
    go false = refl

-- receiving and releasing keep it
pub members_kept : (A : Op → Type 0) (n : ℕ) → StepsKeep by_parts A (λ s. members s ≡ n)
members_kept A n = record { receives = λ s o w e. members_received s o ∙ e; releases = λ s e. members_released s ∙ e }
