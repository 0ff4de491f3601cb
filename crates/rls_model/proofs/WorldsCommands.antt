-- Commands of members, each done whole or not at all, keep a good world and refuse nothing.
use Rattle.std.proofs.Common.{◌≡◌, ◌≤◌, ℕ, List, [], ◌∷◌, ◌++◌, refl, sym, ap, ◌∙◌, subst, append-nil}
use Rattle.std.specs.Prelude.{slice_get, Option, Some, None, Result}
use Rattle.rls_ident.specs.declared.limits.TheConstants.{MEMBERS}
use Rattle.rls_ident.specs.Lists.{IsIn}
use Rattle.rls_ident.proofs.Members.{get_in}
use Rattle.rls_ops.specs.declared.message.Message.{Message}
use Rattle.rls_model.specs.declared.edit.Edit.{Edit}
use Rattle.rls_model.specs.declared.edit.EditError.{EditError}
use Rattle.rls_model.specs.Answers.{Reason}
use Rattle.rls_model.specs.Receiving.{State}
use Rattle.rls_model.specs.Taking.{by_history, Progress, started, with_releases, message_for, message_told, take_message}
use Rattle.rls_model.specs.EditRun.{edit_step, Run, Done, Stopped, run_lines, read_edit, run_edits}
use Rattle.rls_model.specs.Worlds.{World, empty_world, with_state, send_at, deliver_at}
use Rattle.rls_model.specs.Laws.{IsAt, IsFront, AreEdits, Command, Edits, Sends, Tells, Takes, tell_at, after_run, edits_at, obeyed, obeyed_all, refused_run, refused_edits, refused_taken, told_refused, IsCommand, AreCommands, CommandsClean}
use Rattle.rls_model.specs.WellFormed.{IsLarge}
use Rattle.rls_model.proofs.Machines.{running_keeps}
use Rattle.rls_model.proofs.OnePlace.{set_get}
use Rattle.rls_model.proofs.HistoryNumbers.{front_self, front_trans}
use Rattle.rls_model.proofs.WorldsInvariant.{IsGood}
use Rattle.rls_model.proofs.MemberSteps.{taken_going}
use Rattle.rls_model.proofs.WorldsLaws.{empty_good, equal_good, sends, tells, posts}
use Rattle.rls_model.proofs.WorldsEdits.{AllReadWell, edits_read, lines_going}
use Rattle.rls_model.proofs.WorldsPast.{GoesOn, edit_goes_on, releases_go_on, taking_goes_on}
use Rattle.rls_model.proofs.WorldsGroup.{Belongs, set_belongs, sent_belongs, told_belongs, empty_belongs}

-- ---- lines go on from the history before them

pub lines_on : {L F : Type 0} (reads : State → L → Result Edit F) (s : State) (q : Progress) (ls : List L) → run_lines reads s ls ≡ Done q → IsFront s.history (q.state).history
unfolding run_lines
lines_on reads s q ls e = running_keeps by_history reads (GoesOn (started None s)) ls (λ l u p edit f h. goes_on p edit h) 1 (started None s) q e (front_self s.history)
  where
    goes_on : (p : Progress) (edit : Edit) → IsFront s.history (p.state).history → IsFront s.history (with_releases (edit_step p edit)).state.history
    goes_on p edit h =
        let r = edit_step p edit in
        front_trans s.history (p.state).history ((with_releases r).state).history h (front_trans (p.state).history (r.state).history ((with_releases r).state).history (edit_goes_on p edit) (releases_go_on r))

-- ---- what a member does at its state

-- the world where the member has come to this state and has sent this, if anything
abbrev pub with_done : World → ℕ → State → List Message → World
with_done w i t out = record { states = (with_state w i t).states; sent = w.sent ++ out }

-- where these messages were sent, a member comes from state s to state t, tells these refused operations, and sends this
pub data Does {L F : Type 0} (reads : State → L → Result Edit F) (sent : List Message) (s t : State) (refused : List (ℕ × ℕ × Reason)) (out : List Message) : Type 0 where
  Rests : s ≡ t → refused ≡ [] → out ≡ [] → Does reads sent s t refused out
  Runs : (ls : List L) → (p : Progress) → AllReadWell reads ls → run_lines reads s ls ≡ Done p → p.state ≡ t → refused ≡ p.counts.refused → out ≡ [] → Does reads sent s t refused out
  Writes : (to : ℕ) → s ≡ t → refused ≡ [] → out ≡ message_for s.history to ∷ [] → Does reads sent s t refused out
  WritesTold : (to : ℕ) (told : List ℕ) → s ≡ t → refused ≡ [] → out ≡ message_told s.history to told ∷ [] → Does reads sent s t refused out
  Reads : (m : Message) → IsIn m sent → (take_message s m).state ≡ t → refused ≡ (take_message s m).counts.refused → out ≡ [] → Does reads sent s t refused out

-- a good world of one group
pub record Stands (g n : ℕ) (w : World) : Type 0 where
  pub good : IsGood w
  pub belongs : Belongs g n w

done_none : (w : World) (i : ℕ) (t : State) → with_done w i t [] ≡ with_state w i t
done_none w i t = ap (λ ms. record { states = (with_state w i t).states; sent = ms }) (append-nil w.sent)

same_states : (w : World) (i : ℕ) (s : State) (ms : List Message) → IsAt w i s → record w { sent = ms } ≡ record { states = (with_state w i s).states; sent = ms }
same_states w i s ms h = ap (λ xs. record { states = xs; sent = ms }) (sym (set_get w.states i s h))

-- a member that only sends a message
posted_stands : (g n : ℕ) (w : World) (i : ℕ) (s t : State) (m : Message) (out : List Message) → IsAt w i s → s ≡ t → out ≡ m ∷ [] → Stands g n (record w { sent = w.sent ++ m ∷ [] }) → Stands g n (with_done w i t out)
posted_stands g n w i s t m out h e k v = subst (Stands g n) (same_states w i s (w.sent ++ m ∷ []) h ∙ (ap (λ u. with_done w i u (m ∷ [])) e ∙ ap (with_done w i t) (sym k))) v

-- what a member does keeps all this, and refuses nothing
pub does_stands : {L F : Type 0} (reads : State → L → Result Edit F) (g n : ℕ) (w : World) (i : ℕ) (s t : State) (refused : List (ℕ × ℕ × Reason)) (out : List Message) → Stands g n w → IsAt w i s → Does reads w.sent s t refused out →
    (refused ≡ []) × Stands g n (with_done w i t out)
does_stands reads g n w i s t refused out a h (Rests e f k) = (
  f,
  subst (Stands g n) (ap (λ xs. record { states = xs; sent = w.sent }) (sym (set_get w.states i s h)) ∙ (ap (with_state w i) e ∙ (sym (done_none w i t) ∙ ap (with_done w i t) (sym k)))) a,
)
does_stands reads g n w i s t refused out a h (Runs ls p well ran e f k) =
    let r = lines_going reads w i s p ls a.good h well ran in
    let v : Stands g n (with_state w i p.state) = record { good = r.good; belongs = set_belongs g n w i s p.state a.belongs h (lines_on reads s p ls ran) } in
    (f ∙ r.clean, subst (Stands g n) (ap (with_state w i) e ∙ (sym (done_none w i t) ∙ ap (with_done w i t) (sym k))) v)
does_stands reads g n w i s t refused out a h (Writes to e f k) =
    let v : Stands g n (record w { sent = w.sent ++ message_for s.history to ∷ [] }) = record { good = posts w (message_for s.history to) a.good (sends w i s to a.good h); belongs = sent_belongs g n w s to i a.belongs h } in
    (f, posted_stands g n w i s t (message_for s.history to) out h e k v)
does_stands reads g n w i s t refused out a h (WritesTold to told e f k) =
    let v : Stands g n (record w { sent = w.sent ++ message_told s.history to told ∷ [] }) = record { good = posts w (message_told s.history to told) a.good (tells w i s to told a.good h); belongs = told_belongs g n w s to told i a.belongs h } in
    (f, posted_stands g n w i s t (message_told s.history to told) out h e k v)
does_stands reads g n w i s t refused out a h (Reads m p e f k) =
    let r = taken_going w i s m None a.good h p in
    let u = (take_message s m).state in
    let v : Stands g n (with_state w i u) = record { good = r.good; belongs = set_belongs g n w i s u a.belongs h (taking_goes_on None s m) } in
    (f ∙ r.clean, subst (Stands g n) (ap (with_state w i) e ∙ (sym (done_none w i t) ∙ ap (with_done w i t) (sym k))) v)

pub empty_stands : (g n : ℕ) → IsLarge g → n ≤ MEMBERS → Stands g n (empty_world g n)
empty_stands g n l m = record { good = empty_good g n l m; belongs = empty_belongs g n }

-- ---- commands

edits_stand : (g n : ℕ) (w : World) (i : ℕ) (m : Option State) (es : List Edit) → slice_get w.states i ≡ m → Stands g n w → AreEdits es → (refused_edits m es ≡ []) × Stands g n (edits_at w i m es)
edits_stand g n w i None es e a b = (refl, a)
edits_stand g n w i (Some s) es e a b = go (run_edits s es) refl
  where
    go : (r : Run State EditError) → run_edits s es ≡ r → (refused_run r ≡ []) × Stands g n (after_run w i r)
    go (Done p) k =
        let d = does_stands read_edit g n w i s p.state p.counts.refused [] a e (Runs es p (edits_read es b) k refl refl refl) in
        (d.0, subst (Stands g n) (done_none w i p.state) d.1)
    go (Stopped line fault) k = (refl, a)

sends_stand : (g n : ℕ) (w : World) (i to : ℕ) (m : Option State) → slice_get w.states i ≡ m → Stands g n w → Stands g n (send_at None w m to)
sends_stand g n w i to None e a = a
sends_stand g n w i to (Some s) e a =
    let ms = w.sent ++ message_for s.history to ∷ [] in
    record { good = posts w (message_for s.history to) a.good (sends w i s to a.good e); belongs = sent_belongs g n w s to i a.belongs e }

tells_stand : (g n : ℕ) (w : World) (i to : ℕ) (told : List ℕ) (m : Option State) → slice_get w.states i ≡ m → Stands g n w → Stands g n (tell_at w m to told)
tells_stand g n w i to told None e a = a
tells_stand g n w i to told (Some s) e a = record { good = posts w (message_told s.history to told) a.good (tells w i s to told a.good e); belongs = told_belongs g n w s to told i a.belongs e }

takes_stand : (g n : ℕ) (w : World) (i k : ℕ) (m : Option State) (o : Option Message) → slice_get w.states i ≡ m → slice_get w.sent k ≡ o → Stands g n w → (refused_taken m o ≡ []) × Stands g n (deliver_at None w i m o)
takes_stand g n w i k None None e f a = (refl, a)
takes_stand g n w i k None (Some x) e f a = (refl, a)
takes_stand g n w i k (Some s) None e f a = (refl, a)
takes_stand g n w i k (Some s) (Some x) e f a =
    let t = (take_message s x).state in
    let d = does_stands read_edit g n w i s t (take_message s x).counts.refused [] a e (Reads x (get_in w.sent k x f) refl refl refl) in
    (d.0, subst (Stands g n) (done_none w i t) d.1)

command_stands : (g n : ℕ) (w : World) (c : Command) → Stands g n w → IsCommand c → (told_refused w c ≡ []) × Stands g n (obeyed w c)
command_stands g n w (Edits i es) a b = edits_stand g n w i (slice_get w.states i) es refl a b
command_stands g n w (Sends from to) a b = (refl, sends_stand g n w from to (slice_get w.states from) refl a)
command_stands g n w (Tells from to told) a b = (refl, tells_stand g n w from to told (slice_get w.states from) refl a)
command_stands g n w (Takes k to) a b = takes_stand g n w to k (slice_get w.states to) (slice_get w.sent k) refl refl a

commands_stand : (g n : ℕ) (w : World) (cs : List Command) → Stands g n w → AreCommands cs → Stands g n (obeyed_all w cs)
commands_stand g n w [] a b = a
commands_stand g n w (c ∷ cs) a b = commands_stand g n (obeyed w c) cs (command_stands g n w c a b.0).1 b.1

pub law : CommandsClean
law g n cs l m b =
    let w = obeyed_all (empty_world g n) cs in
    let a = commands_stand g n (empty_world g n) cs (empty_stands g n l m) b in
    (λ c d. (command_stands g n w c a d).0, λ i j s t h k e. equal_good w i j s t a.good h k e)
