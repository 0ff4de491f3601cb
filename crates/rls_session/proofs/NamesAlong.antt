-- A session over a history, request by request: what it has recorded names each identifier once.
use Rattle.std.proofs.Common.{◌≡◌, ℕ, zero, suc, Bool, true, false, cond, ltb, List, [], ◌∷◌, length, Option, Some, None, Result, Ok, Err, inr, refl, sym, subst}
use Rattle.std.specs.Prelude.{if◌then◌else◌}
use Rattle.rls_codec.specs.Reading.{message_of}
use Rattle.rls_ops.specs.declared.message.Message.{Message}
use Rattle.rls_ops.specs.declared.op.Op.{Op}
use Rattle.rls_model.specs.Answers.{Reason}
use Rattle.rls_model.specs.declared.edit.Edit.{Edit}
use Rattle.rls_model.specs.declared.edit.Edit.TheVariants as edits
use Rattle.rls_model.specs.declared.edit.EditError.{EditError}
use Rattle.rls_model.specs.Editing.{edit_fault, made}
use Rattle.rls_model.specs.History.{History}
use Rattle.rls_model.specs.Laws.{AreEdits, IsFront}
use Rattle.rls_model.specs.Legal.{IsLegal}
use Rattle.rls_model.specs.Fitting.{refusal as refusal_of}
use Rattle.rls_model.specs.Receiving.{State, accept, after_refusal, after_release, first_ready, release_all, released_times}
use Rattle.rls_model.specs.WellFormed.{IsEdit}
use Rattle.rls_model.specs.Taking.{take_message}
use Rattle.rls_model.proofs.HistoryNumbers.{front_self, front_trans}
use Rattle.rls_model.proofs.Made as making
use Rattle.rls_model.proofs.WorldsPast.{taking_goes_on}
use Rattle.rls_seen.specs.Seen.{Seen}
use Rattle.rls_report.specs.declared.failures.CommandError.TheVariants.{OtherGroup}
use Rattle.rls_report.specs.declared.failures.LineFault.{LineFault}
use Rattle.rls_report.specs.declared.failures.LineFault.TheVariants.{Range}
use Rattle.rls_stages.specs.Lines.{fault_in, text_in}
use Rattle.rls_stages.proofs.Meant.{IsMeantWell, line_well}
use Rattle.rls_undo.specs.declared.entry.Entry.{Entry}
use Rattle.rls_undo.specs.Undoing.{last_of, performed, planned, refusal, unless}
use Rattle.rls_steps.specs.declared.piece.Step.{Step}
use Rattle.rls_steps.specs.Grounds.{Turned, again_on, back_edits, back_on, begun_on, exchanged, within}
use Rattle.rls_steps.specs.Recorded.{Recorded}
use Rattle.rls_session.specs.declared.desk.TheConstants.{KEPT_CHARACTERS, KEPT_STEPS}
use Rattle.rls_session.specs.declared.orders.Side.{Side}
use Rattle.rls_session.specs.declared.orders.Order.TheVariants as orders
use Rattle.rls_session.specs.Answers.{Sitting, answer, if_steps, is_for, read_line, undone, undone_by_plan, with_begun, with_caught_up, with_cursors}
use Rattle.rls_session.specs.Answers as answers
use Rattle.rls_session.specs.Courses.{Answered}
use Rattle.rls_session.specs.Cursors.{cursors_with}
use Rattle.rls_session.specs.Remembering.{NamesCharacters}
use Rattle.rls_session.specs.Replies.{again_text, back_text, cursor_text, failed_text, nothing_text, refused_text}
use Rattle.rls_session.specs.Requests.{Does, Request, Takes}
use Rattle.rls_session.specs.Sessions.{by_history, by_parts}
use Rattle.rls_session.proofs.Agreeing.{answer_alike}
use Rattle.rls_session.proofs.AlikeSittings.{IsAlike}
use Rattle.rls_session.proofs.AlikeSteps.{begun_stays, turned_whole}
use Rattle.rls_session.proofs.Given.{IsGiven}
use Rattle.rls_session.proofs.NamesKept.{back_recorded, begun_recorded, delete_recorded, insert_recorded, kept_recorded, later_recorded}
use Rattle.rls_session.proofs.Steps.{steps_begun}

-- ---- histories go on

abbrev H : State → History
H t = t.history

after_front : (t : State) (w : Op) (r : Option Reason) → IsFront (H t) (H (after_refusal r t w))
after_front t w None = inr (front_self (H t))
after_front t w (Some x) = front_self (H t)

once_front : (t : State) (o : Option Op) → IsFront (H t) (H (after_release t o))
once_front t None = front_self (H t)
once_front t (Some w) = after_front t w (refusal_of (H t) w)

times_front : (n : ℕ) (t : State) → IsFront (H t) (H (released_times n t))
times_front zero t = front_self (H t)
times_front (suc n) t = front_trans (H t) (H (after_release t (first_ready t))) (H (released_times (suc n) t)) (once_front t (first_ready t)) (times_front n (after_release t (first_ready t)))

rest_front : (t : State) → IsFront (H t) (H (release_all t))
unfolding release_all
rest_front t = times_front (length t.waiting) t

performed_front : (es : List Edit) (t : State) → IsFront (H t) (H (performed t es))
performed_front [] t = front_self (H t)
performed_front (e ∷ es) t = go (edit_fault (H t) e) (performed_front es (accept t (made (H t) e)))
  where
    u : State
    u = accept t (made (H t) e)

    go : (f : Option EditError) → IsFront (H u) (H (performed u es)) → IsFront (H t) (H (unless f t (performed u es)))
    go None rest = front_trans (H t) (H u) (H (performed u es)) (inr (front_self (H t))) rest
    go (Some x) rest = front_self (H t)

-- ---- requests

-- what is recorded after the answer names each identifier once
abbrev Stays : Sitting State → Type 0
Stays e = IsLegal (H e.state) → NamesCharacters e.state e.recorded

rested_stays : (s : State) (r : Recorded) → NamesCharacters s r → IsLegal (H (release_all s)) → NamesCharacters (release_all s) r
rested_stays s r k l = later_recorded s (release_all s) r (rest_front s) l k

module _ (d : Sitting Seen) (f : Sitting State) (a : IsAlike d f) (k : NamesCharacters f.state f.recorded) where
  l : IsLegal (H f.state)
  l = (a.stands).legal

  abbrev b : Recorded
  b = begun_on within f.state f.recorded

  begun : NamesCharacters f.state b
  begun = begun_recorded f.state f.recorded k

  -- where the history goes on, and what is recorded is as before
  goes : (e : Sitting State) (r : Recorded) → e.recorded ≡ r → IsFront (H f.state) (H e.state) → NamesCharacters f.state r → Stays e
  goes e r same front n legal = subst (NamesCharacters e.state) (sym same) (later_recorded f.state e.state r front legal n)

  edit_stays : (y : Result Edit LineFault) → IsMeantWell fault_in f.state y → let x = (answers.edited by_history f y).state in IsLegal (H (release_all x.state)) → NamesCharacters (release_all x.state) x.recorded
  edit_stays (Err fault) w legal = rested_stays f.state f.recorded k legal
  edit_stays (Ok (edits.Insert at cs)) w legal =
      let n = accept f.state (made (H f.state) (edits.Insert at cs)) in
      rested_stays n _ (kept_recorded n KEPT_STEPS KEPT_CHARACTERS _ (making.law (H f.state) (edits.Insert at cs) l w.0 w.1) (insert_recorded f.state b at cs l w.0 w.1 begun)) legal
  edit_stays (Ok (edits.Delete at m)) w legal =
      let n = accept f.state (made (H f.state) (edits.Delete at m)) in
      rested_stays n _ (kept_recorded n KEPT_STEPS KEPT_CHARACTERS _ (making.law (H f.state) (edits.Delete at m) l w.0 w.1) (delete_recorded f.state b at m l w.0 w.1 begun)) legal
  edit_stays (Ok edits.Rename) w legal = other edits.Rename w.0 w.1 legal
    where
      other : (edit : Edit) → IsEdit edit → edit_fault (H f.state) edit ≡ None → let n = accept f.state (made (H f.state) edit) in IsLegal (H (release_all n)) → NamesCharacters (release_all n) (by_history.kept n b)
      other edit i e legal =
          let n = accept f.state (made (H f.state) edit) in
          let legal_here = making.law (H f.state) edit l i e in
          rested_stays n _ (kept_recorded n KEPT_STEPS KEPT_CHARACTERS b legal_here (later_recorded f.state n b (inr (front_self (H f.state))) legal_here begun)) legal
  edit_stays (Ok edits.Leave) w legal = other edits.Leave w.0 w.1 legal
    where
      other : (edit : Edit) → IsEdit edit → edit_fault (H f.state) edit ≡ None → let n = accept f.state (made (H f.state) edit) in IsLegal (H (release_all n)) → NamesCharacters (release_all n) (by_history.kept n b)
      other edit i e legal =
          let n = accept f.state (made (H f.state) edit) in
          let legal_here = making.law (H f.state) edit l i e in
          rested_stays n _ (kept_recorded n KEPT_STEPS KEPT_CHARACTERS b legal_here (later_recorded f.state n b (inr (front_self (H f.state))) legal_here begun)) legal

  edits_are : AreEdits (back_edits within f.state b) × AreEdits (back_edits within f.state (exchanged b))
  edits_are = turned_whole (with_begun by_parts d) (with_begun by_history f) (steps_begun d.state f.state d.recorded f.recorded a.stands a.steps) (begun_stays d f a)

  turned_stays : (xs : List Step) (text : ℕ → List ℕ) (t : Turned State) → IsLegal (H t.state) → NamesCharacters t.state t.recorded → let x = (if_steps xs (answers.says nothing_text (with_begun by_history f)) (answers.turned by_history (with_begun by_history f) text t)).state in
      IsLegal (H (release_all x.state)) → NamesCharacters (release_all x.state) x.recorded
  turned_stays [] text t lt n legal = rested_stays f.state b begun legal
  turned_stays (x ∷ xs) text t lt n legal = rested_stays t.state _ (kept_recorded t.state KEPT_STEPS KEPT_CHARACTERS t.recorded lt n) legal

  undo_front : (o : Option Entry) → IsFront (H f.state) (H ((undone by_history (with_caught_up by_history f) o).state).state) × (((undone by_history (with_caught_up by_history f) o).state).recorded ≡ f.recorded)
  undo_front None = (front_self (H f.state), refl)
  undo_front (Some entry) = go (refusal f.state (planned (H f.state) entry))
    where
      go : (x : Option EditError) → IsFront (H f.state) (H ((undone_by_plan by_history (with_caught_up by_history f) (planned (H f.state) entry) x).state).state) × (((undone_by_plan by_history (with_caught_up by_history f) (planned (H f.state) entry) x).state).recorded ≡ f.recorded)
      go None = (performed_front (planned (H f.state) entry) f.state, refl)
      go (Some e) = (performed_front (planned (H f.state) entry) f.state, refl)

  taken_front : (r : Result Message ℕ) → IsFront (H f.state) (H ((answers.taken by_history f r).state).state) × (((answers.taken by_history f r).state).recorded ≡ f.recorded)
  taken_front (Err at) = (front_self (H f.state), refl)
  taken_front (Ok m) = go (is_for by_history f.state m)
    where
      go : (c : Bool) → let e = (if c then answers.taken_at f (take_message f.state m) else answers.says (failed_text (OtherGroup m.group m.members)) f).state in IsFront (H f.state) (H e.state) × (e.recorded ≡ f.recorded)
      go true = (taking_goes_on None f.state m, refl)
      go false = (front_self (H f.state), refl)

  pointed_stays : (side : Side) (at n : ℕ) → Stays (answer by_history f (Does (orders.Point side at n))).state
  unfolding answer
  pointed_stays side at n = go (ltb (length (text_in f.state)) at)
    where
      go : (c : Bool) → Stays (cond {A = Answered (Sitting State)} c (answers.says (refused_text (Range at (length (text_in f.state)))) f) (answers.says (cursor_text at) (with_cursors f (cursors_with f.cursors n (by_history.anchor f.state side at))))).state
      go true legal = k
      go false legal = k

  stays : (r : Request) → IsGiven r → Stays (answer by_history f r).state
  unfolding answer
  stays (Does (orders.Edit line)) ok legal = edit_stays (read_line by_history f.state line) (line_well fault_in text_in f.state line ok) legal
  stays (Does orders.Undo) ok legal =
      let e = (undone by_history (with_caught_up by_history f) (last_of (with_caught_up by_history f).entries)).state in
      let q = undo_front (last_of (with_caught_up by_history f).entries) in
      subst (NamesCharacters (release_all e.state)) (sym q.1) (later_recorded f.state (release_all e.state) f.recorded (front_trans (H f.state) (H e.state) (H (release_all e.state)) q.0 (rest_front e.state)) legal k)
  stays (Does orders.Back) ok legal = let n = back_recorded f.state b l edits_are.0 begun in turned_stays b.past back_text (back_on within f.state b) n.0 n.1 legal
  stays (Does orders.Again) ok legal =
      let t = back_on within f.state (exchanged b) in
      let n = back_recorded f.state (exchanged b) l edits_are.1 (record { kept = begun.kept; named = begun.named }) in
      turned_stays b.future again_text (again_on within f.state b) n.0 (record { kept = (n.1).kept; named = (n.1).named }) legal
  stays (Does orders.Close) ok legal = record { kept = k.kept; named = k.named }
  stays (Does (orders.Point side at n)) ok legal = pointed_stays side at n legal
  stays (Does order) ok legal = k
  stays (Takes bytes) ok legal = let q = taken_front (message_of bytes) in goes (answers.taken by_history f (message_of bytes)).state f.recorded q.1 q.0 k legal

  -- so it is after each request
  pub recorded_after : (r : Request) → IsGiven r → NamesCharacters ((answer by_history f r).state).state ((answer by_history f r).state).recorded
  recorded_after r ok = stays r ok ((((answer_alike d f r ok a).states).stands).legal)
