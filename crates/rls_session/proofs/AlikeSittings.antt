-- Sittings over what a replica consists of and over a history are alike: they answer the same from then on.
use Rattle.std.proofs.Common.{◌≡◌, ◌∙◌, ◌++◌, Bool, List, [], ◌∷◌, Option, Some, None, refl, ap}
use Rattle.rls_model.specs.declared.edit.Edit.{Edit}
use Rattle.rls_model.specs.declared.edit.EditError.{EditError}
use Rattle.rls_model.specs.Receiving.{State}
use Rattle.rls_model.specs.Laws.{AreEdits}
use Rattle.rls_seen.specs.Edits.{edit_fault_over, edited}
use Rattle.rls_seen.specs.Over.{released_all}
use Rattle.rls_seen.specs.Sane.{IsSane}
use Rattle.rls_seen.specs.Seen.{Seen}
use Rattle.rls_seen.specs.Stands.{StandsFor}
use Rattle.rls_seen.proofs.Releasing.{released_all_stands}
use Rattle.rls_replica.proofs.KeptNames.{all_names}
use Rattle.rls_file.specs.Stored.{AreWritable}
use Rattle.rls_file.proofs.Storable.{IsStoring, edited_storing, storing}
use Rattle.rls_undo.specs.UndoLaws.{AreWhole}
use Rattle.rls_undo.specs.Undoing.{performed_over}
use Rattle.rls_changes.specs.declared.change.Change.{Change}
use Rattle.rls_changes.specs.Telling.{all_released_changes}
use Rattle.rls_changes.proofs.TakenAlike.{released_alike}
use Rattle.rls_session.specs.Answers.{Sitting, rested, told, told_rested, with_changes}
use Rattle.rls_session.specs.Courses.{Answered}
use Rattle.rls_session.specs.Desks.{IsWhole}
use Rattle.rls_session.specs.Sessions.{by_history, by_parts}
use Rattle.rls_session.proofs.Steps.{AreStepsAlike, steps_after}
use Rattle.rls_file.proofs.Storable.{all_writable}
use Rattle.rls_session.proofs.Whole.{whole_on}

-- the texts of entries
pub record IsAlike (d : Sitting Seen) (f : Sitting State) : Type 0 where
  pub stands : StandsFor d.state f.state
  pub sane : IsSane d.state
  pub writable : AreWritable d.state
  pub entries : d.entries ≡ f.entries
  pub cursors : d.cursors ≡ f.cursors
  pub tells : d.tells ≡ f.tells
  pub whole : IsWhole d.state d.entries d.cursors
  pub texts : AreWhole d.entries
  pub steps : AreStepsAlike d.state d.recorded f.recorded

-- the same is answered, and what follows is alike
pub record AreAlike (a : Answered (Sitting Seen)) (b : Answered (Sitting State)) : Type 0 where
  pub reply : a.reply ≡ b.reply
  pub states : IsAlike a.state b.state

-- before waiting operations are released it needn't be at rest
pub record IsAlmost (d : Sitting Seen) (f : Sitting State) : Type 0 where
  pub stands : StandsFor d.state f.state
  pub storing_is : IsStoring d.state
  pub entries : d.entries ≡ f.entries
  pub cursors : d.cursors ≡ f.cursors
  pub tells : d.tells ≡ f.tells
  pub whole : IsWhole d.state d.entries d.cursors
  pub texts : AreWhole d.entries
  pub steps : AreStepsAlike d.state d.recorded f.recorded

pub record AreAlmost (a : Answered (Sitting Seen)) (b : Answered (Sitting State)) : Type 0 where
  pub reply : a.reply ≡ b.reply
  pub states : IsAlmost a.state b.state

pub almost : (d : Sitting Seen) (f : Sitting State) → IsAlike d f → IsAlmost d f
almost d f h = record { stands = h.stands; storing_is = storing d.state h.sane h.writable; entries = h.entries; cursors = h.cursors; tells = h.tells; whole = h.whole; texts = h.texts; steps = h.steps }

pub rested_alike : (a : Answered (Sitting Seen)) (b : Answered (Sitting State)) → AreAlmost a b → AreAlike (rested by_parts a) (rested by_history b)
rested_alike a b h =
    let k = h.states in
    let w = all_writable (a.state).state k.storing_is in
    record {
      reply = h.reply;
      states = record {
        stands = released_all_stands (a.state).state (b.state).state k.stands;
        sane = w.0;
        writable = w.1;
        entries = k.entries;
        cursors = k.cursors;
        tells = k.tells;
        whole = whole_on (a.state).state (released_all (a.state).state) (a.state).entries (a.state).cursors (all_names (a.state).state) k.whole;
        texts = k.texts;
        steps = steps_after (a.state).state (released_all (a.state).state) (a.state).recorded (b.state).recorded (all_names (a.state).state) k.steps;
      };
    }

-- what is told of them is the same
pub told_alike : (d : Sitting Seen) (f : Sitting State) (cs ds : List Change) (a : Answered (Sitting Seen)) (b : Answered (Sitting State)) → d.tells ≡ f.tells → cs ≡ ds → AreAlike a b → AreAlike (told d cs a) (told f ds b)
told_alike d f cs ds a b t e h = record {
  reply = ap (λ x. with_changes d.tells cs x) h.reply ∙ (ap (λ x. with_changes d.tells x b.reply) e ∙ ap (λ (x : Bool). with_changes x ds b.reply) t);
  states = h.states;
}

pub told_rested_alike : (d : Sitting Seen) (f : Sitting State) (cs ds : List Change) (a : Answered (Sitting Seen)) (b : Answered (Sitting State)) → d.tells ≡ f.tells → cs ≡ ds → AreAlmost a b → AreAlike (told_rested by_parts d cs a) (told_rested by_history f ds b)
told_rested_alike d f cs ds a b t e h =
    let k = h.states in
    let r = released_alike (a.state).state (b.state).state (k.storing_is).sane k.stands in
    told_alike d f _ _ _ _ t (ap (λ xs. xs ++ all_released_changes (a.state).state) e ∙ ap (λ xs. ds ++ xs) r) (rested_alike a b h)

-- edits that may be made leave what may be stored
pub performed_storing : (s : Seen) (es : List Edit) → AreEdits es → IsStoring s → IsStoring (performed_over s es)
performed_storing s [] w h = h
performed_storing s (e ∷ es) w h = go (edit_fault_over s e) refl (λ k. performed_storing (edited s e) es w.1 k)
  where
    go : (f : Option EditError) → edit_fault_over s e ≡ f → (IsStoring (edited s e) → IsStoring (performed_over (edited s e) es)) → IsStoring (performed_over s (e ∷ es))
    go None q rest = rw q (rest (edited_storing s e h w.0 q))
    go (Some x) q rest = rw q h
