-- What is answered, from its parts.
use Rattle.std.proofs.Common.{◌≡◌, ◌∙◌, ◌<◌, ◌≤◌, ◌-◌, ℕ, Bool, suc, true, false, ltb, List, [], ◌∷◌, ◌++◌, length, Option, Some, None, Result, Ok, Err, IfOk, OnOk, OnErr, append-nil, refl, sym, ap, subst, arith, get_or}
use Rattle.std.specs.Prelude.{IsTrue, ◌↔◌, codes, reverse}
use Rattle.std.proofs.lemmas.Bool.Decides.{nat_tests}
use Rattle.std.proofs.lemmas.Option.{slice_get-get_or}
use Rattle.rls_runs.specs.Entries.{Entries, chars_in}
use Rattle.rls_ops.specs.Spelling.{message_bytes}
use Rattle.rls_model.specs.declared.edit.Edit.{Edit}
use Rattle.rls_model.specs.declared.edit.EditError.{EditError}
use Rattle.rls_model.specs.declared.edit.EditError.TheVariants as errors
use Rattle.rls_seen.specs.Edits.{edit_fault_over, IsFault}
use Rattle.rls_seen.specs.Edits as edits
use Rattle.rls_seen.specs.Messages.{message_over}
use Rattle.rls_seen.specs.Seen.{Seen, members, text_over}
use Rattle.rls_report.specs.declared.failures.CommandError.TheVariants.{NotMember}
use Rattle.rls_report.specs.declared.failures.LineFault.TheVariants as faults
use Rattle.rls_stages.specs.Lines.{allowed, line_fault}
use Rattle.rls_undo.specs.declared.entry.Entry.{Entry}
use Rattle.rls_undo.specs.declared.undo.Undone.{Undone}
use Rattle.rls_undo.specs.declared.undo.UndoError.{UndoError}
use Rattle.rls_undo.specs.declared.undo.UndoError.TheVariants as undo
use Rattle.rls_changes.specs.declared.change.Change.{Change}
use Rattle.rls_changes.specs.Edits.{IsToldPart, edit_changes}
use Rattle.rls_undo.specs.Undoing.{IsPart, entries_over, last_of, performed_over, plan_over, refusal_over, undone_by, without_last}
use Rattle.rls_seen.specs.Over.{released_all}
use Rattle.rls_changes.specs.Telling.{all_released_changes}
use Rattle.rls_steps.specs.declared.piece.Step.{Step}
use Rattle.rls_steps.specs.declared.steps.StepError.{StepError}
use Rattle.rls_steps.specs.declared.steps.StepError.TheVariants as steps
use Rattle.rls_steps.specs.Grounds.{over, again_on, back_on, held_on, recorded_on, steps_edits, Turned}
use Rattle.rls_steps.specs.Groups.{group_size}
use Rattle.rls_steps.specs.Recorded.{Recorded}
use Rattle.rls_steps.specs.Turning.{facing, turn_size, turned_edits, turned_on}
use Rattle.rls_session.specs.Courses.{Answered}
use Rattle.rls_anchor.specs.declared.anchor.Anchor.{Anchor}
use Rattle.rls_anchor.specs.Anchors.{anchor_over}
use Rattle.rls_session.specs.Answering.{IsAnswered}
use Rattle.rls_steps.specs.declared.steps.Turn.{Turn}
use Rattle.rls_steps.specs.declared.steps.Turn.TheVariants as turns
use Rattle.rls_session.specs.declared.orders.Side.{Side}
use Rattle.rls_session.specs.Answers.{Sitting, edited, if_steps, made_sitting, says, told_rested, turn_text, turned, turned_group, turned_reply, with_changes, with_begun, with_entries, with_recorded, pointed, sent, spelled, undone, with_cursors, with_state, sent_told, turn_edits}
use Rattle.rls_session.specs.declared.cursors.Cursor.{Cursor}
use Rattle.rls_session.specs.Cursors.{cursors_with}
use Rattle.rls_session.specs.Desks.{IsTurnTold, TellsFault, sitting_of}
use Rattle.rls_session.specs.Replies.{again_text, anchor_text, back_text, undone_text, nothing_text, cursor_text, bytes_text, refused_text, failed_text}
use Rattle.rls_session.specs.Sessions.{by_parts}

-- what holds of an answer
pub on_ok : {X E : Type 0} (r : Result X E) (P Q : X → Type 0) → ((x : X) → P x → Q x) → IfOk r P → IfOk r Q
on_ok (Ok x) P Q f h = f x h
on_ok (Err e) P Q f h = tt

pub on_both : {X E : Type 0} (r : Result X E) (P Q R : Type 0) → (P → Q → R) → OnOk r P → OnOk r Q → OnOk r R
on_both (Ok x) P Q R f h k = f h k
on_both (Err e) P Q R f h k = tt

pub on_any : {X E : Type 0} (r : Result X E) (P : Type 0) → P → OnOk r P
on_any (Ok x) P h = h
on_any (Err e) P h = tt

-- an answer isn't an error
pub ok_is_not_err : {X E : Type 0} (x : X) (e : E) → Ok x ≡ Err e → ⊥
ok_is_not_err x e h = cc

-- ---- edits

pub edit_refused : (d e : Sitting Seen) (edit : Edit) (error : EditError) (reply : List ℕ) → IsFault error (edit_fault_over d.state edit) → TellsFault error reply → e ≡ d
    → IsAnswered (edited by_parts d (allowed d.state edit)) reply e
edit_refused d e edit errors.OutOfMemory reply fault told is = absurd told
edit_refused d e edit error reply fault told is = rw fault (record { reply_is = told; state_is = is })

-- ---- undoing

-- there is a last one if there is one
last_is : (es : List Entry) → (es ≡ [] → ⊥) → last_of es ≡ None → ⊥
last_is [] some none = some refl
last_is (x ∷ es) some none =
    let there = slice_get-get_or (x ∷ es) (length (x ∷ es) - 1) x (omega arith) in
    let both : Some (get_or (x ∷ es) (length (x ∷ es) - 1) x) ≡ None = sym there ∙ none in
    cc

-- the plan was performed
pub undone_said : (d e : Sitting Seen) (u : Undone) (reply : List ℕ) → (d.entries ≡ [] → ⊥) → refusal_over d.state (plan_over d.state (last_of d.entries)) ≡ None → u ≡ undone_by (plan_over d.state (last_of d.entries))
    → e ≡ sitting_of (performed_over d.state (plan_over d.state (last_of d.entries))) (without_last d.entries) d.cursors d.recorded d.tells → reply ≡ undone_text u.edits u.chars → IsAnswered (undone by_parts d (last_of d.entries)) reply e
undone_said d e u reply some none counts is text = go (last_of d.entries) (last_is d.entries some) none counts is
  where
    go : (o : Option Entry) → (o ≡ None → ⊥) → refusal_over d.state (plan_over d.state o) ≡ None → u ≡ undone_by (plan_over d.state o) → e ≡ sitting_of (performed_over d.state (plan_over d.state o)) (without_last d.entries) d.cursors d.recorded d.tells
        → IsAnswered (undone by_parts d o) reply e
    go None some none counts is = absurd (some refl)
    go (Some entry) some none counts is = rw none (record { reply_is = text ∙ ap (λ (x : Undone). undone_text x.edits x.chars) counts; state_is = is })

-- an edit of the plan was refused
pub undo_refused : (d e : Sitting Seen) (f : EditError) (reply : List ℕ) → (d.entries ≡ [] → ⊥) → refusal_over d.state (plan_over d.state (last_of d.entries)) ≡ Some f
    → e ≡ with_state d (performed_over d.state (plan_over d.state (last_of d.entries))) → TellsFault f reply → IsAnswered (undone by_parts d (last_of d.entries)) reply e
undo_refused d e f reply some refused is told = go (last_of d.entries) (last_is d.entries some) refused is
  where
    text : (f : EditError) → TellsFault f reply → reply ≡ refused_text (line_fault f)
    text errors.OutOfMemory h = absurd h
    text g h = h

    go : (o : Option Entry) → (o ≡ None → ⊥) → refusal_over d.state (plan_over d.state o) ≡ Some f → e ≡ with_state d (performed_over d.state (plan_over d.state o)) → IsAnswered (undone by_parts d o) reply e
    go None some refused is = absurd (some refl)
    go (Some entry) some refused is = rw refused (record { reply_is = text f told; state_is = is })

-- nothing was planned, so nothing was done
pub nothing_done : (s : Seen) (plan : List Edit) (new : Seen) → plan ≡ [] → IsPart s plan new → new ≡ s
nothing_done s plan new none p = go p.front p.rest (sym none ∙ p.are) p.after
  where
    go : (front rest : List Edit) → [] ≡ front ++ rest → new ≡ performed_over s front → new ≡ s
    go [] rest e after = after
    go (x ∷ front) rest e after = absurd cc

-- so it is after an undo that found no entry
pub nothing_untold : (r : Result Undone UndoError) (s n : Seen) (es : List Entry) → r ≡ Err undo.Nothing → es ≡ [] → OnErr r (IsPart s (plan_over s (last_of es)) n) → n ≡ s
nothing_untold r s n es is none part =
    nothing_done s (plan_over s (last_of es)) n (ap (λ (xs : List Entry). plan_over s (last_of xs)) none) (subst (λ (x : Result Undone UndoError). OnErr x (IsPart s (plan_over s (last_of es)) n)) is part)

pub nothing_told : (r : Result Undone UndoError) (s n : Seen) (es : List Entry) (cs ds : List Change) → r ≡ Err undo.Nothing → es ≡ [] → OnErr r (IsToldPart s (plan_over s (last_of es)) n cs ds) → (n ≡ s) × (ds ≡ cs)
nothing_told r s n es cs ds is none part =
    let p = subst (λ (x : Result Undone UndoError). OnErr x (IsToldPart s (plan_over s (last_of es)) n cs ds)) is part in
    go p.front p.rest (sym (ap (λ (xs : List Entry). plan_over s (last_of xs)) none) ∙ p.are) p.led p.told
  where
    go : (front rest : List Edit) → [] ≡ front ++ rest → n ≡ performed_over s front → ds ≡ cs ++ edit_changes front → (n ≡ s) × (ds ≡ cs)
    go [] rest e led told = (led, told ∙ append-nil cs)
    go (x ∷ front) rest e led told = absurd cc

pub nothing_said : (d e : Sitting Seen) (reply : List ℕ) → d.entries ≡ [] → e ≡ d → reply ≡ nothing_text → IsAnswered (undone by_parts d (last_of d.entries)) reply e
nothing_said d e reply none is text =
    let last : last_of d.entries ≡ None = ap last_of none in
    subst (λ (o : Option Entry). IsAnswered (undone by_parts d o) reply e) (sym last) (record { reply_is = text; state_is = is })

-- sittings are the same if their parts are
pub same_sitting : (s t : Seen) (xs ys : List Entry) (a : List Cursor) (r : Recorded) (b : Bool) → s ≡ t → xs ≡ ys → sitting_of s xs a r b ≡ sitting_of t ys a r b
same_sitting s t xs ys a r b e f = rw (e, f) refl

-- ---- steps

-- the parts of a sitting after an edit that isn't refused
pub made_said : (d b e : Sitting Seen) (fs : List Entry) (n : Seen) (q : Recorded) (edit : Edit) → b ≡ with_begun by_parts (with_entries d fs) → fs ≡ d.entries ++ entries_over d.state edit → n ≡ edits.edited b.state edit
    → q ≡ recorded_on over b.state edit b.recorded → e ≡ with_recorded (sitting_of n b.entries b.cursors q b.tells) (by_parts.kept n q) → e ≡ made_sitting by_parts d edit
made_said d b e fs n q edit begun entries after recorded is =
    let now : Seen → List Entry → List Cursor → Recorded → Bool → Sitting Seen = λ s es a r t. with_recorded (sitting_of s es a r t) (by_parts.kept s r) in
    is
    ∙ (ap (λ (z : Seen). now z b.entries b.cursors q b.tells) after
    ∙ (ap (λ (r : Recorded). now (edits.edited b.state edit) b.entries b.cursors r b.tells) recorded
    ∙ (ap (λ (y : Sitting Seen). now (edits.edited y.state edit) y.entries y.cursors (recorded_on over y.state edit y.recorded) y.tells) begun
    ∙ ap (λ (es : List Entry). now (edits.edited d.state edit) es d.cursors (recorded_on over d.state edit (by_parts.begun d.state d.recorded)) d.tells) entries)))

pub fault_told : (f : EditError) (reply : List ℕ) → TellsFault f reply → reply ≡ refused_text (line_fault f)
fault_told errors.OutOfMemory reply h = absurd h
fault_told f reply h = h

-- an answer isn't two errors
pub errors_apart : (r : Result ℕ StepError) (f : EditError) → r ≡ Err (steps.Edit f) → r ≡ Err steps.Nothing → ⊥
errors_apart r f e h = let both : Err (steps.Edit f) ≡ Err steps.Nothing = sym e ∙ h in cc

-- a group was taken back or done again, to its end or not
pub turned_said : (d e : Sitting Seen) (xs : List Step) (text : ℕ → List ℕ) (t : Turned Seen) (n : ℕ) (f : Option EditError) (s : Seen) (q : Recorded) (reply : List ℕ) → (xs ≡ [] → ⊥)
    → t ≡ record { steps = n; fault = f; state = s; recorded = q } → e ≡ with_recorded (with_state d s) (by_parts.kept s q) → reply ≡ turned_reply text n f → IsAnswered (if_steps xs (says nothing_text d) (turned by_parts d text t)) reply e
turned_said d e [] text t n f s q reply some is same told = absurd (some refl)
turned_said d e (x ∷ xs) text t n f s q reply some is same told = subst (λ (y : Turned Seen). IsAnswered (turned by_parts d text y) reply e) (sym is) (record { reply_is = told; state_is = same })

-- there was none
pub none_turned : (d e : Sitting Seen) (xs : List Step) (a : Answered (Sitting Seen)) (reply : List ℕ) → xs ≡ [] → e ≡ d → reply ≡ nothing_text → IsAnswered (if_steps xs (says nothing_text d) a) reply e
none_turned d e [] a reply none is text = record { reply_is = text; state_is = is }
none_turned d e (x ∷ xs) a reply none is text = absurd cc

pub same_turned : (s t : Seen) (es : List Entry) (a : List Cursor) (r q : Recorded) (b : Bool) → s ≡ t → r ≡ q → sitting_of s es a r b ≡ sitting_of t es a q b
same_turned s t es a r q b e f = rw (e, f) refl

-- that is how a group that was taken back or done again is answered, and told
pub turn_answered : {X E : Type 0} (a : Result X E) (text : X → List ℕ) (turn : Turn) (xs : Recorded → List Step) (t : Seen → Recorded → Turned Seen) (k : ℕ) (d y e : Sitting Seen) (s : Seen) (q : Recorded) (r : Result ℕ StepError) → d ≡ y
    → ((r ≡ Err steps.Nothing) ↔ (xs d.recorded ≡ [])) → (r ≡ Err steps.Nothing → (s ≡ d.state) × (q ≡ d.recorded)) → IfOk r (λ n. t d.state d.recorded ≡ record { steps = n; fault = None; state = s; recorded = q })
    → ((f : EditError) → r ≡ Err (steps.Edit f) → t d.state d.recorded ≡ record { steps = k; fault = Some f; state = s; recorded = q }) → IfOk a (λ x. IsTurnTold turn r (with_recorded (with_state d s) q) (text x) e)
    → IfOk a (λ x. IsAnswered (if_steps (xs y.recorded) (says nothing_text y) (turned by_parts y (turn_text turn) (t y.state y.recorded))) (text x) e)
turn_answered a text turn xs t k d y e s q r view nothing stays exact refused told =
    subst (λ (z : Sitting Seen). IfOk a (λ x. IsAnswered (if_steps (xs z.recorded) (says nothing_text z) (turned by_parts z (turn_text turn) (t z.state z.recorded))) (text x) e)) view
    (on_ok a _ _ (λ x. go r (text x) nothing stays exact refused) told)
  where
    go : (p : Result ℕ StepError) (reply : List ℕ) → ((p ≡ Err steps.Nothing) ↔ (xs d.recorded ≡ [])) → (p ≡ Err steps.Nothing → (s ≡ d.state) × (q ≡ d.recorded)) → IfOk p (λ n. t d.state d.recorded ≡ record { steps = n; fault = None; state = s; recorded = q })
        → ((f : EditError) → p ≡ Err (steps.Edit f) → t d.state d.recorded ≡ record { steps = k; fault = Some f; state = s; recorded = q }) → IsTurnTold turn p (with_recorded (with_state d s) q) reply e
        → IsAnswered (if_steps (xs d.recorded) (says nothing_text d) (turned by_parts d (turn_text turn) (t d.state d.recorded))) reply e
    go (Ok n) reply none stays exact refused told = turned_said d e _ (turn_text turn) _ n None s q reply (λ h. ok_is_not_err n steps.Nothing (none.1 h)) exact told.1 told.0
    go (Err steps.Nothing) reply none stays exact refused told =
        let same = stays refl in
        none_turned d e _ _ reply (none.0 refl) (told.1 ∙ same_turned s d.state d.entries d.cursors q d.recorded d.tells same.0 same.1) told.0
    go (Err (steps.Edit f)) reply none stays exact refused told = turned_said d e _ (turn_text turn) _ k (Some f) s q reply (λ h. errors_apart _ f refl (none.1 h)) (refused f refl) told.1 (fault_told f reply told.0)
    go (Err other) reply none stays exact refused told = absurd told

-- so is a turn, either way
pub group_answered : {X E : Type 0} (a : Result X E) (text : X → List ℕ) (turn : Turn) (d y e : Sitting Seen) (s : Seen) (q : Recorded) (r : Result ℕ StepError) → d ≡ y
    → ((r ≡ Err steps.Nothing) ↔ ((facing turn d.recorded).past ≡ [])) → (r ≡ Err steps.Nothing → (s ≡ d.state) × (q ≡ d.recorded)) → IfOk r (λ n. turned_on over turn d.state d.recorded ≡ record { steps = n; fault = None; state = s; recorded = q })
    → ((f : EditError) → r ≡ Err (steps.Edit f) → turned_on over turn d.state d.recorded ≡ record { steps = turn_size turn d.recorded; fault = Some f; state = s; recorded = q }) → IfOk a (λ x. IsTurnTold turn r (with_recorded (with_state d s) q) (text x) e)
    → IfOk a (λ x. IsAnswered (turned_group by_parts turn y) (text x) e)
group_answered a text turns.Back d y e s q r view nothing stays exact refused told = turn_answered a text turns.Back (λ p. p.past) (back_on over) (turn_size turns.Back d.recorded) d y e s q r view nothing stays exact refused told
group_answered a text turns.Again d y e s q r view nothing stays exact refused told = turn_answered a text turns.Again (λ p. p.future) (again_on over) (turn_size turns.Again d.recorded) d y e s q r view nothing stays exact refused told

-- and its edits are told
pub group_told : {X E : Type 0} (a : Result X E) (text : X → List ℕ) (turn : Turn) (d y m e : Sitting Seen) (r : Result ℕ StepError) (cs ds : List Change) → d ≡ y → ((r ≡ Err steps.Nothing) ↔ ((facing turn d.recorded).past ≡ [])) → (r ≡ Err steps.Nothing → ds ≡ cs)
    → OnOk r (ds ≡ cs ++ edit_changes (turned_edits over turn d.state d.recorded)) → ((f : EditError) → r ≡ Err (steps.Edit f) → ds ≡ cs ++ edit_changes (turned_edits over turn d.state d.recorded)) → IfOk a (λ x. IsTurnTold turn r m (text x) e)
    → OnOk a (ds ≡ cs ++ edit_changes (turn_edits by_parts turn y))
group_told (Err x) text turn d y m e r cs ds view nothing none done refused told = tt
group_told (Ok x) text turn d y m e r cs ds view nothing none done refused told =
    go r nothing none done refused told ∙ ap (λ (es : List Edit). cs ++ edit_changes es) (same turn d ∙ ap (turn_edits by_parts turn) view)
  where
    same : (b : Turn) (z : Sitting Seen) → turned_edits over b z.state z.recorded ≡ turn_edits by_parts b z
    same turns.Back z = refl
    same turns.Again z = refl

    go : (p : Result ℕ StepError) → ((p ≡ Err steps.Nothing) ↔ ((facing turn d.recorded).past ≡ [])) → (p ≡ Err steps.Nothing → ds ≡ cs) → OnOk p (ds ≡ cs ++ edit_changes (turned_edits over turn d.state d.recorded))
        → ((f : EditError) → p ≡ Err (steps.Edit f) → ds ≡ cs ++ edit_changes (turned_edits over turn d.state d.recorded)) → IsTurnTold turn p m (text x) e → ds ≡ cs ++ edit_changes (turned_edits over turn d.state d.recorded)
    go (Ok n) nothing none done refused told = done
    go (Err steps.Nothing) nothing none done refused told =
        let no : edit_changes (turned_edits over turn d.state d.recorded) ≡ [] = ap (λ (xs : List Step). edit_changes (steps_edits over (group_size xs) (held_on over d.state (facing turn d.recorded)) (reverse xs))) (nothing.0 refl) in
        none refl ∙ (sym (append-nil cs) ∙ ap (λ (xs : List Change). cs ++ xs) (sym no))
    go (Err (steps.Edit f)) nothing none done refused told = refused f refl
    go (Err other) nothing none done refused told = absurd told

tells_on : (xs : List Step) (d : Sitting Seen) (text : ℕ → List ℕ) (t : Turned Seen) → ((if_steps xs (says nothing_text d) (turned by_parts d text t)).state).tells ≡ d.tells
tells_on [] d text t = refl
tells_on (x ∷ xs) d text t = refl

pub tells_stay : (turn : Turn) (d : Sitting Seen) → ((turned_group by_parts turn d).state).tells ≡ d.tells
tells_stay turns.Back d = tells_on (d.recorded).past d back_text (by_parts.backed d.state d.recorded)
tells_stay turns.Again d = tells_on (d.recorded).future d again_text (by_parts.redone d.state d.recorded)

-- what is told of it, and of what is released after it
pub turned_told : (d m e : Sitting Seen) (cs xs ys zs : List Change) (a : Answered (Sitting Seen)) (reply all : List ℕ) → IsAnswered a reply m → (a.state).tells ≡ d.tells → xs ≡ [] → ys ≡ xs ++ cs → (IsTrue m.tells → zs ≡ ys ++ all_released_changes m.state)
    → e ≡ with_state m (released_all m.state) → all ≡ with_changes e.tells zs reply → IsAnswered (told_rested by_parts d cs a) all e
turned_told d m e cs xs ys zs a reply all h same none made more is text = record {
  reply_is = text ∙ (ap (λ (b : Bool). with_changes b zs reply) (ap (λ (x : Sitting Seen). x.tells) is ∙ tells) ∙ go d.tells tells);
  state_is = is ∙ ap (λ (x : Sitting Seen). with_state x (released_all x.state)) h.state_is;
}
  where
    tells : m.tells ≡ d.tells
    tells = ap (λ (x : Sitting Seen). x.tells) h.state_is ∙ same

    all_are : IsTrue m.tells → zs ≡ cs ++ all_released_changes (a.state).state
    all_are t = more t ∙ (ap (λ (us : List Change). us ++ all_released_changes m.state) (made ∙ ap (λ (us : List Change). us ++ cs) none) ∙ ap (λ (x : Sitting Seen). cs ++ all_released_changes x.state) h.state_is)

    go : (b : Bool) → m.tells ≡ b → with_changes b zs reply ≡ with_changes b (cs ++ all_released_changes (a.state).state) a.reply
    go false p = h.reply_is
    go true p = ap (with_changes true zs) h.reply_is ∙ ap (λ (us : List Change). with_changes true us a.reply) (all_are p)

-- ---- the cursor

text_length : (es : Entries) → length (chars_in es) ≡ length es
text_length [] = refl
text_length (e ∷ es) = ap suc (text_length es)

pub pointed_past : (d e : Sitting Seen) (side : Side) (at k n m : ℕ) (reply : List ℕ) → n ≡ at → m ≡ length (d.state).text → length (d.state).text < at → e ≡ d → reply ≡ refused_text (faults.Range n m) → IsAnswered (pointed by_parts d side at k) reply e
pointed_past d e side at k n m reply f g past is text =
    let len = text_length (d.state).text in
    let test : ltb (length (text_over d.state)) at ≡ true = grind (arith, nat_tests, len) in
    let total : m ≡ length (text_over d.state) = g ∙ sym len in
    rw test (record { reply_is = rw (← f, ← total) text; state_is = is })

pub pointed_there : (d e : Sitting Seen) (side : Side) (at k : ℕ) (a : Anchor) (reply : List ℕ) → at ≤ length (d.state).text → a ≡ by_parts.anchor d.state side at → e ≡ with_cursors d (cursors_with d.cursors k a) → reply ≡ cursor_text at → IsAnswered (pointed by_parts d side at k) reply e
pointed_there d e side at k a reply within made is text =
    let len = text_length (d.state).text in
    let test : ltb (length (text_over d.state)) at ≡ false = grind (arith, nat_tests, len) in
    rw test (record { reply_is = text; state_is = is ∙ ap (λ (x : Anchor). with_cursors d (cursors_with d.cursors k x)) made })

-- ---- places that travel

pub spelled_past : (s : Seen) (at n m : ℕ) (reply : List ℕ) → n ≡ at → m ≡ length s.text → length s.text < at → reply ≡ refused_text (faults.Range n m) → reply ≡ spelled by_parts s at
spelled_past s at n m reply f g past is =
    let len = text_length s.text in
    let test : ltb (length (text_over s)) at ≡ true = grind (arith, nat_tests, len) in
    let total : m ≡ length (text_over s) = g ∙ sym len in
    rw test (rw (← f, ← total) is)

pub spelled_there : (s : Seen) (at : ℕ) (a : Anchor) (reply : List ℕ) → at ≤ length s.text → a ≡ anchor_over s at → reply ≡ anchor_text a → reply ≡ spelled by_parts s at
spelled_there s at a reply within made is =
    let len = text_length s.text in
    let test : ltb (length (text_over s)) at ≡ false = grind (arith, nat_tests, len) in
    rw test (is ∙ ap (λ (x : Anchor). anchor_text x) made)

-- ---- messages

pub sent_bytes : (s : Seen) (to : ℕ) (bytes : List ℕ) → bytes ≡ message_bytes (message_over s to) → (members s ≤ to → ⊥) → bytes_text (codes "message") bytes ≡ sent by_parts s to
sent_bytes s to bytes e h =
    let below : to < members s = omega (arith, h) in
    let test : ltb to (members s) ≡ true = grind (arith, nat_tests) in
    rw (test, e) refl

pub sent_none : (s : Seen) (to : ℕ) → members s ≤ to → failed_text (NotMember to) ≡ sent by_parts s to
sent_none s to h =
    let test : ltb to (members s) ≡ false = grind (arith, nat_tests) in
    rw test refl
