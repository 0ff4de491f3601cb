-- The replica of a journal after each entry.
use Rattle.std.proofs.Common.{◌≡◌, ℕ, true, cond, List, [], refl, ap, ◌∙◌, subst}
use Rattle.rls_ops.specs.declared.op.Op.{Op}
use Rattle.rls_model.specs.Answers.{Answer}
use Rattle.rls_model.specs.History.{Accepted, Acknowledged, History, Then, members_of}
use Rattle.rls_model.specs.Receiving.{State, after, replay, replay_after}
use Rattle.rls_model.specs.Stability.{is_counted}
use Rattle.rls_model.specs.Taking.{acknowledge}
use Rattle.rls_seen.specs.Seen.{Seen, members}
use Rattle.rls_seen.specs.Over.{answer_over, accepted, acknowledged, after_answer, holding, replayed}
use Rattle.rls_seen.specs.Stands.{StandsFor}
use Rattle.rls_seen.proofs.Alike.{members_alike}
use Rattle.rls_file.specs.Journals.{IsReplayOf}
use Rattle.rls_file.specs.ReadingFiles.{applies}
use Rattle.rls_file.specs.ReadingJournals.{IsAfter}
use Rattle.rls_file.proofs.StoredLegal.{applies_is}

abbrev pub alone : History → State
alone H = record { history = H; waiting = [] }

pub after_members : (H : History) (s : Seen) (n : ℕ) → IsAfter H s → n ≡ members s → n ≡ members_of H
after_members H s n a e = e ∙ members_alike s (alone H) a.stands

-- an operation was applied
pub applied : (H : History) (s new : Seen) (o : Op) → IsAfter H s → new ≡ replayed s o → applies (replay (alone H) o) ≡ true → answer_over true s o ≡ replay (alone H) o → StandsFor new (replay_after (alone H) o)
    → IsAfter (Then H (Accepted o)) new
unfolding replayed
applied H s new o a e f same h =
    let applies_so = applies_is (replay (alone H) o) f in
    record {
      is = e ∙ ap (λ (x : Answer). after_answer x s o) (same ∙ applies_so) ∙ ap (λ (x : Seen). accepted x o) a.is;
      stands = subst (λ x. StandsFor new (after x (alone H) o)) applies_so h;
    }

-- an acknowledgement was counted
pub counted : (H : History) (s new : Seen) (a : ℕ) (v : List ℕ) → IsAfter H s → new ≡ acknowledged s a v → is_counted H a v ≡ true → StandsFor new (acknowledge (alone H) a v) → IsAfter (Then H (Acknowledged a v)) new
counted H s new a v h e f n = record { is = e ∙ ap (λ (x : Seen). acknowledged x a v) h.is; stands = subst (λ b. StandsFor new (cond b (alone (Then H (Acknowledged a v))) (alone H))) f n }

held_same : (s : Seen) → s ≡ holding s s.waiting
unfolding holding
held_same s = refl

-- nothing waits yet
pub none_waits : (H : History) (s : Seen) → IsAfter H s → IsReplayOf (alone H) s
none_waits H s a = record { is = held_same s ∙ ap (holding s) a.stands.waiting ∙ ap (λ (x : Seen). holding x []) a.is; stands = a.stands }
