-- Steps that are taken back and done again are the same over what a replica consists of and over each history that it stands for.
use Rattle.std.proofs.Common.{◌≡◌, ◌∙◌, ℕ, List, [], ◌∷◌, refl, ap, sym, subst}
use Rattle.rls_model.specs.declared.edit.Edit.{Edit}
use Rattle.rls_model.specs.Receiving.{State}
use Rattle.rls_model.specs.Laws.{AreEdits}
use Rattle.rls_seen.specs.Seen.{Seen}
use Rattle.rls_replica.specs.Names.{KeepsNames}
use Rattle.rls_file.proofs.Storable.{IsStoring, storing}
use Rattle.rls_undo.proofs.Performed.{performed_names}
use Rattle.rls_changes.specs.Edits.{edit_changes}
use Rattle.rls_steps.specs.declared.piece.Step.{Step}
use Rattle.rls_steps.specs.Recorded.{Recorded}
use Rattle.rls_steps.specs.Groups.{group_count}
use Rattle.rls_steps.specs.Grounds.{over, within, begun_on, Turned, closed, back_on, again_on, back_edits, again_edits}
use Rattle.rls_steps.specs.GroundLaws as grounds
use Rattle.rls_steps.proofs.Agreeing.{turned_alike}
use Rattle.rls_steps.proofs.Performing.{turned_edits_alike, turned_performed}
use Rattle.rls_session.specs.Answers.{Sitting, if_steps, turned_reply, with_begun}
use Rattle.rls_session.specs.Answers as answers
use Rattle.rls_session.specs.Courses.{Answered}
use Rattle.rls_session.specs.Replies.{again_text, back_text, groups_text, nothing_text}
use Rattle.rls_session.specs.Sessions.{by_history, by_parts}
use Rattle.rls_session.proofs.Steps.{AreBegun, AreStepsAlike, kept_steps, steps_alike, steps_begun}
use Rattle.rls_session.proofs.Whole.{whole_on}
use Rattle.rls_session.proofs.AlikeSittings.{IsAlike, AreAlike, AreAlmost, almost, performed_storing}

none_almost : (d : Sitting Seen) (f : Sitting State) (xs : List Step) (a : Answered (Sitting Seen)) (b : Answered (Sitting State)) → IsAlike d f → AreAlmost a b →
    AreAlmost (if_steps xs (answers.says nothing_text d) a) (if_steps xs (answers.says nothing_text f) b)
none_almost d f [] a b h k = record { reply = refl; states = almost d f h }
none_almost d f (x ∷ xs) a b h k = k

-- a group is taken back or done again by edits
turned_almost : (d : Sitting Seen) (f : Sitting State) (text : ℕ → List ℕ) (a : Turned Seen) (b : Turned State) (es : List Edit) → IsAlike d f → grounds.AreAlike a b → grounds.ArePerformed d.state es a.state →
    AreAlmost (answers.turned by_parts d text a) (answers.turned by_history f text b)
turned_almost d f text a b es h k p = record {
  reply = ap (λ (n : ℕ). turned_reply text n a.fault) k.steps ∙ ap (turned_reply text b.steps) k.fault;
  states = record {
    stands = k.stands;
    storing_is = subst IsStoring (sym p.state) (performed_storing d.state es p.whole (storing d.state h.sane h.writable));
    entries = h.entries;
    cursors = h.cursors;
    tells = h.tells;
    whole = whole_on d.state a.state d.entries d.cursors (subst (KeepsNames d.state) (sym p.state) (performed_names es d.state)) h.whole;
    texts = h.texts;
    steps = kept_steps a.state b.state a.recorded b.recorded k.stands (record { same = k.recorded; kept = k.kept; spelled = k.whole });
  };
}

-- as far as there is one
group_almost : (d : Sitting Seen) (f : Sitting State) (text : ℕ → List ℕ) (stack : Recorded → List Step) (a : Turned Seen) (b : Recorded → Turned State) (es : List Edit) → IsAlike d f → grounds.AreAlike a (b d.recorded) → grounds.ArePerformed d.state es a.state →
    AreAlmost (if_steps (stack d.recorded) (answers.says nothing_text d) (answers.turned by_parts d text a)) (if_steps (stack f.recorded) (answers.says nothing_text f) (answers.turned by_history f text (b f.recorded)))
group_almost d f text stack a b es h k p =
    let whole = if_steps (stack d.recorded) (answers.says nothing_text d) (answers.turned by_parts d text a) in
    subst (λ (r : Recorded). AreAlmost whole (if_steps (stack r) (answers.says nothing_text f) (answers.turned by_history f text (b r)))) (h.steps).same
    (none_almost d f (stack d.recorded) _ _ h (turned_almost d f text a (b d.recorded) es h k p))

pub backed_almost : (d : Sitting Seen) (f : Sitting State) → AreBegun d.state d.recorded f.recorded → IsAlike d f → AreAlmost (answers.backed by_parts d) (answers.backed by_history f)
backed_almost d f g h =
    group_almost d f back_text (λ r. r.past) _ (back_on within f.state) _ h (turned_alike d.state f.state d.recorded h.stands h.sane g.kept g.spelled).0 (turned_performed d.state d.recorded h.sane g.spelled).0

pub redone_almost : (d : Sitting Seen) (f : Sitting State) → AreBegun d.state d.recorded f.recorded → IsAlike d f → AreAlmost (answers.redone by_parts d) (answers.redone by_history f)
redone_almost d f g h =
    group_almost d f again_text (λ r. r.future) _ (again_on within f.state) _ h (turned_alike d.state f.state d.recorded h.stands h.sane g.kept g.spelled).1 (turned_performed d.state d.recorded h.sane g.spelled).1

-- the same edits
turned_same : (d : Sitting Seen) (f : Sitting State) → AreBegun d.state d.recorded f.recorded → IsAlike d f →
    (back_edits over d.state d.recorded ≡ back_edits within f.state f.recorded) × (again_edits over d.state d.recorded ≡ again_edits within f.state f.recorded)
turned_same d f g h =
    let e = turned_edits_alike d.state f.state d.recorded h.stands h.sane g.kept g.spelled in
    (e.0 ∙ ap (back_edits within f.state) (h.steps).same, e.1 ∙ ap (again_edits within f.state) (h.steps).same)

pub turned_changes : (d : Sitting Seen) (f : Sitting State) → AreBegun d.state d.recorded f.recorded → IsAlike d f →
    (edit_changes (back_edits over d.state d.recorded) ≡ edit_changes (back_edits within f.state f.recorded)) × (edit_changes (again_edits over d.state d.recorded) ≡ edit_changes (again_edits within f.state f.recorded))
turned_changes d f g h = let e = turned_same d f g h in (ap edit_changes e.0, ap edit_changes e.1)

-- which are well formed
pub turned_whole : (d : Sitting Seen) (f : Sitting State) → AreBegun d.state d.recorded f.recorded → IsAlike d f → AreEdits (back_edits within f.state f.recorded) × AreEdits (again_edits within f.state f.recorded)
turned_whole d f g h =
    let e = turned_same d f g h in
    let p = turned_performed d.state d.recorded h.sane g.spelled in
    (subst AreEdits e.0 (p.0).whole, subst AreEdits e.1 (p.1).whole)

-- as long as what is recorded is
recorded_alike : (d : Sitting Seen) (f : Sitting State) (r q : Recorded) → IsAlike d f → AreStepsAlike d.state r q → IsAlike (answers.with_recorded d r) (answers.with_recorded f q)
recorded_alike d f r q h steps =
    record { stands = h.stands; sane = h.sane; writable = h.writable; entries = h.entries; cursors = h.cursors; tells = h.tells; whole = h.whole; texts = h.texts; steps = steps }

-- what is recorded has begun
pub begun_stays : (d : Sitting Seen) (f : Sitting State) → IsAlike d f → IsAlike (with_begun by_parts d) (with_begun by_history f)
begun_stays d f h = recorded_alike d f _ _ h (steps_alike d.state (begun_on over d.state d.recorded) (begun_on within (f.state) f.recorded) (steps_begun d.state f.state d.recorded f.recorded h.stands h.steps))

-- the group that is open is ended
pub ended_alike : (d : Sitting Seen) (f : Sitting State) → IsAlike d f → AreAlike (answers.ended d) (answers.ended f)
ended_alike d f h = record {
  reply = ap (λ (r : Recorded). groups_text (group_count r.past) (group_count r.future)) (h.steps).same;
  states = recorded_alike d f _ _ h (record { same = ap closed (h.steps).same; kept = (h.steps).kept; spelled = (h.steps).spelled });
}
