-- Releasing what is ready, once and until nothing is.
use Rattle.std.proofs.Common.{◌≡◌, ℕ, zero, suc, ◌<◌, true, length, refl, sym, ap, ◌∙◌, subst, Option, Some, None}
use Rattle.std.specs.Prelude.{find}
use Rattle.rls_ident.specs.Vectors.{at_most}
use Rattle.rls_ident.proofs.Members.{found_in}
use Rattle.rls_ops.specs.declared.op.Op.{Op}
use Rattle.rls_ops.specs.Shapes.{shape_fault}
use Rattle.rls_ops.proofs.Shaped.{next_of}
use Rattle.rls_model.specs.Answers.{Reason, Released}
use Rattle.rls_model.specs.Fitting.{refusal}
use Rattle.rls_model.specs.History.{count, count_of, members_of}
use Rattle.rls_model.specs.Legal.{AreWaiting}
use Rattle.rls_model.specs.Receiving.{State, without, release, release_after, release_all}
use Rattle.rls_model.specs.Receiving as model
use Rattle.rls_model.specs.WellFormed.{IsOp}
use Rattle.rls_model.proofs.OneTree.{author_below}
use Rattle.rls_model.proofs.WaitingFits.{waiting_at, sound_without}
use Rattle.rls_seen.specs.Seen.{Seen}
use Rattle.rls_seen.specs.Over.{holding, first_ready, release_of, release_over, after_refusal, after_release, released, released_times, released_all}
use Rattle.rls_seen.specs.Stands.{StandsFor}
use Rattle.rls_seen.proofs.Alike.{refusal_alike}
use Rattle.rls_seen.proofs.Accepting.{accepted_stands}
use Rattle.rls_seen.proofs.Receiving.{holding_stands}

-- ---- by a history that the replica stands for

pub first_alike : (s : Seen) (t : State) → StandsFor s t → first_ready s ≡ model.first_ready t
first_alike s t h =
    ap (λ v. find (λ w. at_most w.context v) s.waiting) h.vector
    ∙ ap (λ W. find (λ w. at_most w.context (count t.history)) W) h.waiting

-- what holds of the first ready one
record IsReady (t : State) (w : Op) : Type 0 where
  whole : IsOp w
  shape : shape_fault (members_of t.history) w ≡ None
  above : count_of t.history w.author < w.seq
  causes : at_most w.context (count t.history) ≡ true

ready : (t : State) (w : Op) → AreWaiting t.history t.waiting → model.first_ready t ≡ Some w → IsReady t w
ready t w h e =
    let p = found_in (λ w. at_most w.context (count t.history)) w t.waiting e in
    let q = waiting_at t.history t.waiting w h p.0 in
    record { whole = q.0; shape = q.1; above = q.2; causes = p.1 }

refused_go : (s : Seen) (t : State) (w : Op) → StandsFor s t → IsReady t w → (r : Option Reason) → refusal t.history w ≡ r → StandsFor (after_refusal r s w) (model.after_refusal r t w)
refused_go s t w h g None f =
    accepted_stands s t w g.whole (record { shape = g.shape; next = next_of (members_of t.history) (count t.history) w g.shape g.above g.causes; causes = g.causes; fits = f }) h
refused_go s t w h g (Some r) f =
    let e : without w.author w.seq t.waiting ≡ without w.author w.seq s.waiting = ap (without w.author w.seq) (sym h.waiting) in
    subst (λ W. StandsFor (holding s W) (record { history = t.history; waiting = without w.author w.seq t.waiting })) e
    (holding_stands s t (without w.author w.seq t.waiting) h (sound_without t.history w.author w.seq t.waiting h.sound))

release_go : (s : Seen) (t : State) → StandsFor s t → (o : Option Op) → model.first_ready t ≡ o → (release_of s o ≡ model.release_of t o) × StandsFor (after_release s o) (model.after_release t o)
release_go s t h None e = (refl, h)
release_go s t h (Some w) e =
    let g = ready t w h.sound e in
    let f = refusal_alike s t w g.whole (author_below (members_of t.history) w g.shape) h in (
      ap (λ r. Some (released_as w r)) f,
      subst (λ r. StandsFor (after_refusal r s w) (model.after_refusal (refusal t.history w) t w)) (sym f) (refused_go s t w h g (refusal t.history w) refl),
    )
  where
    released_as : Op → Option Reason → Released
    released_as w r = record { author = w.author; seq = w.seq; refusal = r }

-- releasing
pub released_stands : (s : Seen) (t : State) → StandsFor s t → (release_over s ≡ release t) × StandsFor (released s) (release_after t)
unfolding released release_over
released_stands s t h =
    subst (λ o. (release_of s o ≡ release t) × StandsFor (after_release s o) (release_after t)) (sym (first_alike s t h))
    (release_go s t h (model.first_ready t) refl)

times_stand : (n : ℕ) (s : Seen) (t : State) → StandsFor s t → StandsFor (released_times n s) (model.released_times n t)
times_stand zero s t h = h
times_stand (suc n) s t h = times_stand n (released s) (release_after t) (released_stands s t h).1

-- releasing until none is ready
pub released_all_stands : (s : Seen) (t : State) → StandsFor s t → StandsFor (released_all s) (release_all t)
unfolding released_all release_all
released_all_stands s t h =
    subst (λ n. StandsFor (released_times (length s.waiting) s) (model.released_times n t)) (ap length h.waiting) (times_stand (length s.waiting) s t h)
