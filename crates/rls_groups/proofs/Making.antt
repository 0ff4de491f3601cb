-- A draft that is made in a session of a group: its edits stand in the member's history, nothing else happens, and the text is what was shown.
use Rattle.std.proofs.Common.{◌≡◌, ◌∙◌, ℕ, List, [], ◌∷◌, Option, Some, None, refl, sym, ap, subst, inr}
use Rattle.rls_ops.specs.declared.message.Message.{Message}
use Rattle.rls_model.specs.declared.edit.Edit.{Edit}
use Rattle.rls_model.specs.declared.edit.EditError.{EditError}
use Rattle.rls_model.specs.Editing.{edit_fault, made, or_fault}
use Rattle.rls_model.specs.Laws.{AreEdits, IsAt}
use Rattle.rls_model.specs.Receiving.{State, accept}
use Rattle.rls_model.specs.WellFormed.{IsEdit}
use Rattle.rls_model.specs.Worlds.{World}
use Rattle.rls_model.proofs.HistoryNumbers.{front_self}
use Rattle.rls_model.proofs.Made.{or_none}
use Rattle.rls_model.proofs.NothingReady.{IsAtRest}
use Rattle.rls_model.proofs.WorldsArrived.{edit_stays}
use Rattle.rls_model.proofs.WorldsCommands.{with_done}
use Rattle.rls_seen.specs.Edits.{edited}
use Rattle.rls_seen.specs.Seen.{Seen}
use Rattle.rls_seen.specs.Stands.{StandsFor}
use Rattle.rls_seen.proofs.Editing.{edit_faults_alike, edited_stands}
use Rattle.rls_undo.specs.Undoing.{performed, refusal, unless}
use Rattle.rls_changes.specs.Edits.{performed_edits_in}
use Rattle.rls_stages.specs.Lines.{allowed_by, fault_in}
use Rattle.rls_session.specs.Answers.{Sitting}
use Rattle.rls_session.specs.Seats.{made_all, made_each}
use Rattle.rls_session.specs.Sessions.{by_history, by_parts}
use Rattle.rls_session.proofs.Fitting.{AreFit}
use Rattle.rls_session.proofs.InPlace.{AreDone}
use Rattle.rls_groups.specs.Groups.{AreMade}
use Rattle.rls_groups.proofs.Staying.{Follows, follows_self, follows_trans}
use Rattle.rls_groups.proofs.Steps.{IsUnderway, at, edits as edits_on, rests}

-- well formed edits without a fault, one after another, over a history
abbrev pub AreFitIn : State → List Edit → Type 0
AreFitIn t [] = Unit {0}
AreFitIn t (e ∷ es) = IsEdit e × (edit_fault t.history e ≡ None) × AreFitIn (accept t (made t.history e)) es

-- and the state after them
abbrev pub after_each : State → List Edit → State
after_each t [] = t
after_each t (e ∷ es) = after_each (accept t (made t.history e)) es

-- edits of which none is refused, and the state after them
fit_in : (es : List Edit) (t : State) → AreEdits es → refusal t es ≡ None → AreFitIn t es
fit_in [] t a r = tt
fit_in (e ∷ es) t a r =
    let v = accept t (made t.history e) in
    let q = or_none (edit_fault t.history e) (refusal v es) r in
    (a.0, q.0, fit_in es v a.1 q.1)

performed_each : (es : List Edit) (t : State) → refusal t es ≡ None → performed t es ≡ after_each t es
performed_each [] t r = refl
performed_each (e ∷ es) t r =
    let v = accept t (made t.history e) in
    let q = or_none (edit_fault t.history e) (refusal v es) r in
    ap (λ (f : Option EditError). unless f t (performed v es)) q.0 ∙ performed_each es v q.1

-- those of some edits that come before the first that is refused
pub front_performed : (es : List Edit) (t : State) → AreEdits es → let fs = performed_edits_in t es in AreEdits fs × (refusal t fs ≡ None) × (performed t fs ≡ performed t es)
front_performed [] t a = (tt, refl, refl)
front_performed (e ∷ es) t a = go (edit_fault t.history e) refl (front_performed es (accept t (made t.history e)) a.1)
  where
    v : State
    v = accept t (made t.history e)

    go : (f : Option EditError) → edit_fault t.history e ≡ f → (let fs = performed_edits_in v es in AreEdits fs × (refusal v fs ≡ None) × (performed v fs ≡ performed v es))
        → let fs = unless f [] (e ∷ performed_edits_in v es) in AreEdits fs × (refusal t fs ≡ None) × (performed t fs ≡ unless f t (performed v es))
    go None q r = ((a.0, r.0), ap (λ (o : Option EditError). or_fault o (refusal v (performed_edits_in v es))) q ∙ r.1, ap (λ (o : Option EditError). unless o t (performed v (performed_edits_in v es))) q ∙ r.2)
    go (Some x) q r = (tt, refl, refl)

pub fit_alike : (es : List Edit) (s : Seen) (t : State) → StandsFor s t → AreFit s es → AreFitIn t es
fit_alike [] s t h k = tt
fit_alike (e ∷ es) s t h k = (k.0, sym (edit_faults_alike s t e h) ∙ k.1, fit_alike es (edited s e) (accept t (made t.history e)) (edited_stands s t e k.0 k.1 h) k.2)

-- the replica stands for it
pub each_stands : (es : List Edit) (d : Sitting Seen) (t : State) → StandsFor d.state t → AreFit d.state es → StandsFor (made_each by_parts d es).state (after_each t es)
each_stands [] d t h k = h
each_stands (e ∷ es) d t h k = each_stands es _ (accept t (made t.history e)) (edited_stands d.state t e k.0 k.1 h) k.2

each_state : (es : List Edit) (f : Sitting State) → (made_each by_history f es).state ≡ after_each f.state es
each_state [] f = refl
each_state (e ∷ es) f = each_state es _

-- nothing is released
pub all_state : (es : List Edit) (f : Sitting State) → IsAtRest (after_each f.state es) → (made_all by_history f es).state ≡ after_each f.state es
all_state [] f r = refl
all_state (e ∷ es) f r = let same = each_state (e ∷ es) f in rests (made_each by_history f (e ∷ es)).state (subst IsAtRest (sym same) r) ∙ same

module _ (g n : ℕ) (w : World) (i : ℕ) (s : State) (h : IsAt w i s) where
  -- each edit's operation is accepted, and nothing else happens
  pub each_made : (es : List Edit) (t : State) (out : List Message) → AreFitIn t es → IsUnderway g n w i t out
      → IsUnderway g n w i (after_each t es) out × Follows t (after_each t es) × AreMade (allowed_by fault_in) t es (after_each t es)
  each_made [] t out k u = (u, follows_self t, refl)
  each_made (e ∷ es) t out k u =
      let v = accept t (made t.history e) in
      let rest = each_made es v out k.2 (edits_on g n w i s h t out u e k.0 k.1) in
      let first : Follows t v = (inr (front_self t.history), λ o p. edit_stays (with_done w i t out) i t e o (u.stands).good (at g n w i s h t out) p) in
      (rest.0, follows_trans t v (after_each v es) first rest.1, (e, rw k.1 refl, k.0, k.1, (rest.1).0, rest.2))

  -- so it is with edits of which none is refused
  pub all_made : (es : List Edit) (t : State) (out : List Message) → AreEdits es → refusal t es ≡ None → IsUnderway g n w i t out → AreMade (allowed_by fault_in) t es (performed t es)
  all_made es t out a r u = subst (AreMade (allowed_by fault_in) t es) (sym (performed_each es t r)) (each_made es t out (fit_in es t a r) u).2

  -- and nothing is released after any of them
  pub each_rests : (es : List Edit) (t : State) (out : List Message) → AreFitIn t es → IsUnderway g n w i t out → AreDone by_history t es
  each_rests [] t out k u = tt
  each_rests (e ∷ es) t out k u =
      let v = accept t (made t.history e) in
      let j = edits_on g n w i s h t out u e k.0 k.1 in
      (k.1, rests v (j.storable).rest, each_rests es v out k.2 j)
