-- A request of a session of a group, where nothing is drafted: what it is answered, and what it makes of the member's history.
use Rattle.std.proofs.Common.{◌≡◌, ◌∙◌, ◌≤◌, ◌<◌, ◌-◌, ℕ, Bool, true, false, cond, ltb, nat_lt, zero, suc, List, [], ◌∷◌, ◌++◌, length, Option, Some, None, Result, Ok, Err, is_some, refl, sym, ap, subst, inl, inr}
use Rattle.std.specs.Prelude.{◌&&◌, ◌==◌, IsTrue, codes, encode_utf8_all, reverse}
use Rattle.std.proofs.lemmas.List.{append-nil}
use Rattle.rls_ident.specs.declared.limits.TheConstants.{INPUT_BYTES}
use Rattle.rls_ident.specs.Lists.{IsIn}
use Rattle.rls_ident.proofs.Members.{and_true, eq_is, eq_test, in_left, lt_is}
use Rattle.rls_ops.specs.declared.message.Message.{Message}
use Rattle.rls_ops.specs.Spelling.{message_bytes}
use Rattle.rls_codec.specs.CodecLaws.{IsBytes, IsMessage}
use Rattle.rls_codec.specs.Reading.{message_of}
use Rattle.rls_codec.proofs.MessageFormats.{message_again}
use Rattle.rls_codec.proofs.SizeLaws.{message_length}
use Rattle.rls_model.specs.declared.edit.Edit.{Edit}
use Rattle.rls_model.specs.declared.edit.EditError.{EditError}
use Rattle.rls_model.specs.declared.receipt.Taken.{Taken}
use Rattle.rls_model.specs.Answers.{Reason}
use Rattle.rls_model.specs.Document.{text}
use Rattle.rls_model.specs.History.{group_of, members_of}
use Rattle.rls_model.specs.Laws.{IsAt, IsFront, AreEdits}
use Rattle.rls_model.specs.Receiving.{State}
use Rattle.rls_model.specs.Taking.{message_for, message_told, take_message}
use Rattle.rls_model.specs.Worlds.{World}
use Rattle.rls_model.proofs.HistoryNumbers.{front_self, front_trans}
use Rattle.rls_model.proofs.NothingReady.{IsAtRest}
use Rattle.rls_model.proofs.WorldsCommands.{with_done}
use Rattle.rls_model.proofs.WorldsInvariant.{at_later}
use Rattle.rls_model.proofs.WorldsPast.{taking_goes_on}
use Rattle.rls_model.proofs.WorldsArrived.{edit_stays, message_stays}
use Rattle.rls_seen.specs.Messages.{message_over, message_told_over, told_over}
use Rattle.rls_seen.specs.Over.{first_ready, release_of, release_over, released, released_all}
use Rattle.rls_seen.specs.Seen.{Seen, members, vector}
use Rattle.rls_seen.specs.Stands.{StandsFor}
use Rattle.rls_seen.proofs.Keeping.{text_alike}
use Rattle.rls_seen.proofs.Releasing.{first_alike}
use Rattle.rls_seen.proofs.Repeating.{all_done}
use Rattle.rls_seen.proofs.Sending.{beyond_fits, message_alike, message_fits, told_alike as message_told_alike}
use Rattle.rls_file.proofs.HistoryMessages.{sent_is_message, told_is_message}
use Rattle.rls_file.proofs.Storable.{released_still}
use Rattle.rls_undo.specs.declared.entry.Entry.{Entry}
use Rattle.rls_replica.specs.Names.{keeps}
use Rattle.rls_undo.specs.Plans.{epoch_in}
use Rattle.rls_undo.specs.Undoing.{last_of, performed, planned, refusal}
use Rattle.rls_undo.specs.UndoLaws.{IsEntry, IsUndoneIn}
use Rattle.rls_undo.proofs.Alike.{planned_alike}
use Rattle.rls_undo.proofs.Histories.{plan_edits, undone_in}
use Rattle.rls_report.specs.declared.failures.LineFault.{LineFault}
use Rattle.rls_report.specs.Reports.{take_text}
use Rattle.rls_script.specs.declared.lines.Line.{Line}
use Rattle.rls_stages.specs.Lines.{allowed_by, fault_in, text_in}
use Rattle.rls_stages.proofs.Meant.{IsLine, IsMeantWell, line_well}
use Rattle.rls_top.specs.Groups.{Group}
use Rattle.rls_top.proofs.Groups.{Matches, of_file, shown}
use Rattle.rls_session.specs.declared.orders.Order.TheVariants as orders
use Rattle.rls_session.specs.Answers.{Sitting, answer, edited, if_steps, made_changes, message_changes, read_line, rested, sent, sent_told, taken, taken_at, text_reply, told, told_rested, undone, undone_by_plan, with_begun, with_caught_up, with_changes, with_state}
use Rattle.rls_changes.specs.declared.change.Change.{Change}
use Rattle.rls_changes.specs.Edits.{performed_edits_in}
use Rattle.rls_changes.specs.Telling.{all_released_changes, all_released_changes_in, ready_changes, times_changes}
use Rattle.rls_changes.proofs.TakenAlike.{released_alike}
use Rattle.rls_steps.specs.declared.piece.Step.{Step}
use Rattle.rls_steps.specs.Grounds.{Held, Turned, within, again_edits, again_on, back_edits, back_on, exchanged, held_on, steps_edits}
use Rattle.rls_steps.specs.Groups.{group_size}
use Rattle.rls_steps.proofs.Performing.{turned_performed_in}
use Rattle.rls_session.specs.Answers as answers
use Rattle.rls_session.specs.Courses.{Answered}
use Rattle.rls_session.specs.Replies.{again_text, back_text, bytes_text, nothing_text}
use Rattle.rls_session.specs.Requests.{Request, Does, Takes}
use Rattle.rls_session.specs.Seats.{seated}
use Rattle.rls_session.specs.Sessions.{by_history, by_parts}
use Rattle.rls_session.specs.Turns.{AgainTakesOwn, BackTakesOwn}
use Rattle.rls_session.proofs.Given.{IsGiven}
use Rattle.rls_session.proofs.Turned.{turns_take_own}
use Rattle.rls_session.proofs.AlikeSittings.{AreAlike, AreAlmost, IsAlike}
use Rattle.rls_session.proofs.AlikeSteps.{backed_almost, begun_stays, redone_almost, turned_whole}
use Rattle.rls_session.proofs.Agreeing.{answer_alike, caught_up_stays, line_almost, taken_alike, undo_almost}
use Rattle.rls_session.proofs.Steps.{AreBegun, steps_begun}
use Rattle.rls_session.proofs.Entries.{whole_at}
use Rattle.rls_session.proofs.Whole.{last_undoable}
use Rattle.rls_groups.specs.Events.{IsWritten, replied}
use Rattle.rls_groups.specs.Groups.{AreMade, IsAnswered, IsClean, IsTaken, IsTextOfAll, IsUndone, at_seat}
use Rattle.rls_groups.proofs.Commands.{message_taken}
use Rattle.rls_groups.proofs.Making.{all_made, front_performed}
use Rattle.rls_groups.proofs.Past.{past_same}
use Rattle.rls_groups.proofs.Requests.{Steps}
use Rattle.rls_groups.proofs.Staying.{Follows, follows_self}
use Rattle.rls_groups.proofs.Steps.{IsUnderway, at, edits, performs, rests, sends_on, takes, tells_on}

-- each request but a change, which is answered where something may be drafted
abbrev pub IsOther : Request → Type 0
IsOther (Does (orders.Change at n cs)) = ⊥
IsOther r = Unit {0}

-- ---- nothing is released

pub rested_at : (t : Seen) → first_ready t ≡ None → released_all t ≡ t
unfolding release_over
rested_at t e = all_done t (ap (λ o. is_some (release_of t o)) e)

times_none : (n : ℕ) (t : Seen) → first_ready t ≡ None → times_changes n t ≡ []
times_none zero t e = refl
times_none (suc n) t e = ap (λ o. ready_changes t o ++ times_changes n (released t)) e ∙ ap (times_changes n) (released_still t e) ∙ times_none n t e

none_changed : (t : Seen) → first_ready t ≡ None → all_released_changes t ≡ []
unfolding all_released_changes
none_changed t e = times_none (length t.waiting) t e

-- by what is answered over a history that is at rest then
rested_same : (a : Answered (Sitting Seen)) (t : State) → StandsFor (a.state).state t → IsAtRest t → rested by_parts a ≡ a
rested_same a t h r = ap (λ (s : Seen). answers.says a.reply (with_state a.state s)) (rested_at (a.state).state (first_alike (a.state).state t h ∙ r))

told_same : (d : Sitting Seen) (cs : List Change) (a : Answered (Sitting Seen)) (t : State) → StandsFor (a.state).state t → IsAtRest t → told_rested by_parts d cs a ≡ told d cs a
told_same d cs a t h r =
    ap (λ xs. told d (cs ++ xs) (rested by_parts a)) (none_changed (a.state).state (first_alike (a.state).state t h ∙ r))
    ∙ (ap (λ xs. told d xs (rested by_parts a)) (append-nil cs) ∙ ap (told d cs) (rested_same a t h r))

-- a message that is taken, by its counts
clean_text : (c : Taken) → c.refused ≡ [] → take_text c.applied c.released c.repeated c.held (length c.refused) ≡ take_text c.applied c.released c.repeated c.held 0
clean_text c e = ap (λ (r : List (ℕ × ℕ × Reason)). take_text c.applied c.released c.repeated c.held (length r)) e

module _ (g n : ℕ) (G : Group) (w : World) (x : Matches g n G w) (i : ℕ) (s : State) (h : IsAt w i s) where
  -- ---- on the way

  -- the replica and the history are alike, and the member's history has come to this in a good world
  pub record Both (d : Sitting Seen) (f : Sitting State) (out : List Message) : Type 0 where
    pub alike : IsAlike d f
    pub underway : IsUnderway g n w i f.state out
    pub front : IsFront s.history (f.state).history

  abbrev pub Later : Sitting State → Sitting State → Type 0
  Later e f = Follows e.state f.state × IsAtRest f.state

  abbrev pub IsTold : List ℕ → Message → Type 0
  IsTold b m = IsMessage b m × (length b ≤ INPUT_BYTES)

  -- what the law says of it
  abbrev pub IsCleanHere : Sitting Seen → Request → Type 0
  IsCleanHere d r = IsClean G (seated d) r

  abbrev pub IsDoneHere : Sitting State → Sitting State → Request → Type 0
  IsDoneHere u f r = IsAnswered (seated f) r

  abbrev pub Stepped : Sitting Seen → Sitting State → List Message → Request → Type 0
  Stepped d f out r = Steps (answer by_parts) (answer by_history) replied Both Later (λ d r. IsWritten G r) IsCleanHere IsDoneHere IsTold d f out r

  -- ---- one request

  module _ (d : Sitting Seen) (f : Sitting State) (out : List Message) (b : Both d f out) where
    abbrev next_of : Request → State
    next_of r = ((answer by_history f r).state).state

    -- nothing is sent
    moved : (r : Request) → AreAlike (answer by_parts d r) (answer by_history f r) → IsUnderway g n w i (next_of r) out → Follows f.state (next_of r) → IsCleanHere d r → IsAnswered (seated f) r → replied d r ≡ [] → Stepped d f out r
    moved r k u follows clean meant none = record {
      more = [];
      reply = k.reply;
      next = record { alike = k.states; underway = subst (IsUnderway g n w i (next_of r)) (sym (append-nil out)) u; front = front_trans s.history (f.state).history (next_of r).history b.front follows.0 };
      later = (follows, (u.storable).rest);
      clean = clean;
      meant = λ v l. meant;
      told = λ a p. absurd (subst (λ (xs : List (List ℕ)). IsIn a xs) none p);
    }

    -- nothing changes
    quiet : (r : Request) → IsGiven r → next_of r ≡ f.state → IsCleanHere d r → IsAnswered (seated f) r → replied d r ≡ [] → Stepped d f out r
    quiet r given e clean meant none = moved r (answer_alike d f r given b.alike) (subst (λ (t : State). IsUnderway g n w i t out) (sym e) b.underway) (subst (Follows f.state) (sym e) (follows_self f.state)) clean meant none

    -- where waiting operations are released then, of which none is ready
    record Rested (t u : State) : Type 0 where
      underway : IsUnderway g n w i t out
      follows : Follows f.state t
      same : u ≡ t

    rested_moves : (r : Request) (t : State) → Rested t (next_of r) → AreAlike (answer by_parts d r) (answer by_history f r) → IsCleanHere d r → IsAnswered (seated f) r → replied d r ≡ [] → Stepped d f out r
    rested_moves r t q k clean meant none = moved r k (subst (λ (u : State). IsUnderway g n w i u out) (sym q.same) q.underway) (subst (Follows f.state) (sym q.same) q.follows) clean meant none

    -- what it changes is told, as far as the history goes on
    made_step : (r : Request) (e : Sitting Seen) (cs : List Change) (a : Answered (Sitting Seen)) (y : Answered (Sitting State)) → AreAlmost a y → IsUnderway g n w i (y.state).state out × Follows f.state (y.state).state
        → (IsAtRest (y.state).state → next_of r ≡ (y.state).state) → IsGiven r → (told_rested by_parts e cs a ≡ told e cs a → IsCleanHere d r) → (next_of r ≡ (y.state).state → IsAnswered (seated f) r) → replied d r ≡ [] → Stepped d f out r
    made_step r e cs a y almost q same given clean meant none =
        let rest = ((q.0).storable).rest in
        rested_moves r (y.state).state (record { underway = q.0; follows = q.1; same = same rest }) (answer_alike d f r given b.alike) (clean (told_same e cs a (y.state).state (almost.states).stands rest)) (meant (same rest)) none

    -- ---- edits

    edit_goes : (y : Result Edit LineFault) → IsMeantWell fault_in f.state y → IsUnderway g n w i ((edited by_history f y).state).state out × Follows f.state ((edited by_history f y).state).state
    edit_goes (Ok edit) q =
        (edits g n w i s h f.state out b.underway edit q.0 q.1, (inr (front_self (f.state).history), λ o p. edit_stays (with_done w i f.state out) i f.state edit o ((b.underway).stands).good (at g n w i s h f.state out) p))
    edit_goes (Err fault) q = (b.underway, follows_self f.state)

    edit_step : (line : Line) → IsLine line → Stepped d f out (Does (orders.Edit line))
    unfolding answer
    edit_step line ok =
        let r = Does (orders.Edit line) in
        let y = read_line by_history f.state line in
        let q = edit_goes y (line_well fault_in text_in f.state line ok) in
        let t = ((edited by_history f y).state).state in
        let still = rests t ((q.0).storable).rest in
        let alike = (line_almost d f line b.alike ok).states in
        let here = ((edited by_parts d (read_line by_parts d.state line)).state).state in
        let none : all_released_changes_in t ≡ [] = sym (released_alike here t (alike.storing_is).sane alike.stands) ∙ none_changed here (first_alike here t alike.stands ∙ ((q.0).storable).rest) in
        rested_moves r t (record { underway = q.0; follows = q.1; same = still }) (answer_alike d f r ok b.alike)
        (ap at_seat (told_same d (made_changes (read_line by_parts d.state line)) (edited by_parts d (read_line by_parts d.state line)) t alike.stands ((q.0).storable).rest))
        (λ edit e. let k = subst (IsMeantWell fault_in f.state) e (line_well fault_in text_in f.state line ok) in record {
          reply = ap (λ cs. with_changes f.tells (made_changes y ++ cs) (edited by_history f y).reply) none
              ∙ (ap (λ cs. with_changes f.tells cs (edited by_history f y).reply) (append-nil (made_changes y)) ∙ ap (λ (z : Result Edit LineFault). with_changes f.tells (made_changes z) (edited by_history f z).reply) e);
          edit_is = k.0;
          fits = k.1;
          state = still ∙ ap (λ (z : Result Edit LineFault). ((edited by_history f z).state).state) e;
        })
        refl

    -- ---- undoing

    -- by entries that have caught up with the renames
    undo_goes : (e : Sitting Seen) (u : Sitting State) → IsAlike e u → u.state ≡ f.state → (o : Option Entry) → last_of u.entries ≡ o
        → IsUnderway g n w i ((undone by_history u o).state).state out × Follows f.state ((undone by_history u o).state).state
    undo_goes e u alike same None l = (subst (λ (t : State). IsUnderway g n w i t out) (sym same) b.underway, subst (Follows f.state) (sym same) (follows_self f.state))
    undo_goes e u alike same (Some entry) l = go (refusal u.state plan)
      where
        plan : List Edit
        plan = planned (u.state).history entry

        last : last_of e.entries ≡ Some entry
        last = ap last_of alike.entries ∙ l

        are : AreEdits plan
        are = subst AreEdits (planned_alike e.state u.state entry alike.stands (last_undoable e.state e.entries entry last (alike.whole).undoable)) (plan_edits e.state entry alike.sane (whole_at e.entries (length e.entries - 1) entry last alike.texts))

        goes : IsUnderway g n w i (performed u.state plan) out × Follows f.state (performed u.state plan)
        goes = subst (λ (t : State). IsUnderway g n w i (performed t plan) out × Follows f.state (performed t plan)) (sym same) (performs g n w i s h plan f.state out are b.underway)

        go : (o : Option EditError) → IsUnderway g n w i ((undone_by_plan by_history u plan o).state).state out × Follows f.state ((undone_by_plan by_history u plan o).state).state
        go None = goes
        go (Some x) = goes

    -- each of its edits is made, and unless one is refused the entry is undone
    undo_meant : (e : Sitting Seen) (u : Sitting State) → IsAlike e u → u.state ≡ f.state → (o : Option Entry) → last_of u.entries ≡ o → IsUndone u.state o ((undone by_history u o).state).state
    undo_meant e u alike same None l = record { edits = refl; text = λ x q. absurd cc }
    undo_meant e u alike same (Some entry) l = record {
      edits = subst (AreMade (allowed_by fault_in) u.state (performed_edits_in u.state plan)) (sym after) (subst (AreMade (allowed_by fault_in) u.state (performed_edits_in u.state plan)) front.2 (all_made g n w i s h (performed_edits_in u.state plan) u.state out front.0 front.1 here));
      text = λ x q r. subst (λ (t : State). IsUndoneIn (u.state).history x t.history) (sym after) (texts x (one x q) r);
    }
      where
        plan : List Edit
        plan = planned (u.state).history entry

        here : IsUnderway g n w i u.state out
        here = subst (λ (t : State). IsUnderway g n w i t out) (sym same) b.underway

        last : last_of e.entries ≡ Some entry
        last = ap last_of alike.entries ∙ l

        kept : IsTrue (keeps e.state (epoch_in entry))
        kept = last_undoable e.state e.entries entry last (alike.whole).undoable

        is : IsEntry entry
        is = whole_at e.entries (length e.entries - 1) entry last alike.texts

        are : AreEdits plan
        are = subst AreEdits (planned_alike e.state u.state entry alike.stands kept) (plan_edits e.state entry alike.sane is)

        front : AreEdits (performed_edits_in u.state plan) × (refusal u.state (performed_edits_in u.state plan) ≡ None) × (performed u.state (performed_edits_in u.state plan) ≡ performed u.state plan)
        front = front_performed plan u.state are

        by_plan : (x : Option EditError) → ((undone_by_plan by_history u plan x).state).state ≡ performed u.state plan
        by_plan None = refl
        by_plan (Some x) = refl

        after : ((undone by_history u (Some entry)).state).state ≡ performed u.state plan
        after = by_plan (refusal u.state plan)

        one : (x : Entry) → Some entry ≡ Some x → entry ≡ x
        one x q = cc

        texts : (x : Entry) → entry ≡ x → refusal u.state (planned (u.state).history x) ≡ None → IsUndoneIn (u.state).history x (performed u.state plan).history
        texts x q r =
            let there : refusal u.state plan ≡ None = ap (λ (y : Entry). refusal u.state (planned (u.state).history y)) q ∙ r in
            subst (λ (y : Entry). IsUndoneIn (u.state).history y (performed u.state plan).history) q (undone_in e.state u.state entry alike.sane alike.stands kept is there)

    undo_step : Stepped d f out (Does orders.Undo)
    unfolding answer
    undo_step =
        let r = Does orders.Undo in
        let e = with_caught_up by_parts d in
        let u = with_caught_up by_history f in
        let alike = caught_up_stays d f b.alike in
        made_step r e _ _ _ (undo_almost e u alike) (undo_goes e u alike refl (last_of u.entries) refl) (λ k. rests _ k) tt (λ k. ap at_seat k) (λ k. subst (IsUndone u.state (last_of u.entries)) (sym k) (undo_meant e u alike refl (last_of u.entries) refl)) refl

    -- ---- steps

    -- a group that is taken back or done again by these edits, if there is one
    turned_goes : (xs : List Step) (text : ℕ → List ℕ) (u : Sitting State) (a : Turned State) (es : List Edit) → u.state ≡ f.state → AreEdits es → a.state ≡ performed f.state es
        → let t = ((if_steps xs (answers.says nothing_text u) (answers.turned by_history u text a)).state).state in IsUnderway g n w i t out × Follows f.state t
    turned_goes [] text u a es same are is = (subst (λ (t : State). IsUnderway g n w i t out) (sym same) b.underway, subst (Follows f.state) (sym same) (follows_self f.state))
    turned_goes (x ∷ xs) text u a es same are is = subst (λ (t : State). IsUnderway g n w i t out × Follows f.state t) (sym is) (performs g n w i s h es f.state out are b.underway)

    -- each of them is made
    turned_meant : (k : Held State) (ps xs : List Step) → ps ≡ xs → (text : ℕ → List ℕ) (u : Sitting State) (a : Turned State) → u.state ≡ f.state → let es = steps_edits within (group_size ps) k (reverse ps) in AreEdits es → refusal f.state es ≡ None → a.state ≡ performed f.state es
        → AreMade (allowed_by fault_in) f.state es ((if_steps xs (answers.says nothing_text u) (answers.turned by_history u text a)).state).state
    turned_meant k ps [] e text u a same are fit is = subst (λ (qs : List Step). AreMade (allowed_by fault_in) f.state (steps_edits within (group_size qs) k (reverse qs)) u.state) (sym e) same
    turned_meant k ps (x ∷ xs) e text u a same are fit is =
        let es = steps_edits within (group_size ps) k (reverse ps) in
        subst (AreMade (allowed_by fault_in) f.state es) (sym is) (all_made g n w i s h es f.state out are fit b.underway)

    abbrev parts_begun : Sitting Seen
    parts_begun = with_begun by_parts d

    abbrev history_begun : Sitting State
    history_begun = with_begun by_history f

    stays : IsAlike parts_begun history_begun
    stays = begun_stays d f b.alike

    begun : AreBegun d.state (parts_begun.recorded) (history_begun.recorded)
    begun = steps_begun d.state f.state d.recorded f.recorded (b.alike).stands (b.alike).steps

    -- and takes out own characters alone
    own : BackTakesOwn d × AgainTakesOwn d
    own = turns_take_own d (b.alike).sane ((b.alike).steps).spelled

    back_step : Stepped d f out (Does orders.Back)
    unfolding answer
    back_step =
        let q = turned_goes (history_begun.recorded).past back_text history_begun (back_on within f.state (history_begun.recorded)) _ refl (turned_whole parts_begun history_begun begun stays).0 ((turned_performed_in f.state (history_begun.recorded)).0).state in
        let r = history_begun.recorded in
        let p = (turned_performed_in f.state r).0 in
        let meant = turned_meant (held_on within f.state r) r.past r.past refl back_text history_begun (back_on within f.state r) refl (turned_whole parts_begun history_begun begun stays).0 p.fit p.state in
        made_step (Does orders.Back) parts_begun _ _ _ (backed_almost parts_begun history_begun begun stays) q (λ r. rests _ r) tt (λ e. (ap at_seat e, own.0)) (λ k. subst (AreMade (allowed_by fault_in) f.state (back_edits within f.state r)) (sym k) meant) refl

    again_step : Stepped d f out (Does orders.Again)
    unfolding answer
    again_step =
        let q = turned_goes (history_begun.recorded).future again_text history_begun (again_on within f.state (history_begun.recorded)) _ refl (turned_whole parts_begun history_begun begun stays).1 ((turned_performed_in f.state (history_begun.recorded)).1).state in
        let r = history_begun.recorded in
        let p = (turned_performed_in f.state r).1 in
        let meant = turned_meant (held_on within f.state (exchanged r)) r.future r.future refl again_text history_begun (again_on within f.state r) refl (turned_whole parts_begun history_begun begun stays).1 p.fit p.state in
        made_step (Does orders.Again) parts_begun _ _ _ (redone_almost parts_begun history_begun begun stays) q (λ r. rests _ r) tt (λ e. (ap at_seat e, own.1)) (λ k. subst (AreMade (allowed_by fault_in) f.state (again_edits within f.state r)) (sym k) meant) refl

    -- ---- the cursor and the text

    either : (c : Bool) (a e : Answered (Sitting State)) → (a.state).state ≡ f.state → (e.state).state ≡ f.state → ((cond c a e).state).state ≡ f.state
    either true a e p q = p
    either false a e p q = q

    text_clean : IsTextOfAll G (vector d.state) (text_reply by_parts d.state)
    text_clean j t words input file counted is =
        let p = of_file g n G w x j t file in
        let r = p.0 in
        let stands = (b.alike).stands in
        let past = at_later w i j s f.state r.state h b.front r.at in
        let same = past_same (with_done w i f.state out) ((b.underway).stands).good j i (r.state).history (f.state).history past (f.state, at g n w i s h f.state out, front_self (f.state).history) (sym (p.1).counts ∙ (counted ∙ stands.vector)) in (
          encode_utf8_all (text (r.state).history),
          shown g n G w x j words input r (inl is),
          ap (λ (cs : List ℕ). bytes_text (codes "text") (encode_utf8_all cs)) (text_alike d.state f.state stands ∙ sym same.1),
        )

    -- ---- messages

    send_same : (to : ℕ) → next_of (Does (orders.Send to)) ≡ f.state
    unfolding answer
    send_same to = refl

    send_reply : (to : ℕ) → (answer by_parts d (Does (orders.Send to))).reply ≡ sent by_parts d.state to
    unfolding answer
    send_reply to = refl

    -- this is answered, and may be handed on
    message_step : (r : Request) (m : Message) (bytes : List ℕ) → IsGiven r → next_of r ≡ f.state → IsUnderway g n w i f.state (out ++ m ∷ []) → IsTold bytes m → replied d r ≡ bytes ∷ [] → IsCleanHere d r → IsAnswered (seated f) r → Stepped d f out r
    message_step r m bytes given same under is replied_is clean meant =
        let k = answer_alike d f r given b.alike in
        record {
          more = m ∷ [];
          reply = k.reply;
          next = record {
            alike = k.states;
            underway = subst (λ (t : State). IsUnderway g n w i t (out ++ m ∷ [])) (sym same) under;
            front = subst (λ (t : State). IsFront s.history t.history) (sym same) b.front;
          };
          later = subst (λ (t : State). Follows f.state t × IsAtRest t) (sym same) (follows_self f.state, ((b.underway).storable).rest);
          clean = clean;
          meant = λ v l. meant;
          told = λ a p. (m, inl refl, subst (λ (y : List ℕ). IsTold y m) (the_one a bytes (subst (IsIn a) replied_is p)) is);
        }
      where
        the_one : (a y : List ℕ) → IsIn a (y ∷ []) → y ≡ a
        the_one a y (inl q) = q
        the_one a y (inr q) = absurd q

    -- a message of this history is short enough, and has a spelling
    told_of : (m : Message) (bytes : List ℕ) → bytes ≡ message_bytes m → IsMessage (message_bytes m) m → length bytes ≤ INPUT_BYTES → IsTold bytes m
    told_of m bytes same is short = (subst (λ (y : List ℕ). IsMessage y m) (sym same) is, short)

    send_step : (to : ℕ) → Stepped d f out (Does (orders.Send to))
    send_step to = go (nat_lt to (members d.state)) refl
      where
        r : Request
        r = Does (orders.Send to)

        bytes : List ℕ
        bytes = message_bytes (message_over d.state to)

        reply : (message : List ℕ) → IsIn message (bytes ∷ []) → bytes_text (codes "message") bytes ≡ bytes_text (codes "message") message
        reply message (inl q) = ap (bytes_text (codes "message")) q
        reply message (inr q) = absurd q

        go : (known : Bool) → nat_lt to (members d.state) ≡ known → Stepped d f out r
        go false e = let none : replied d r ≡ [] = rw e refl in quiet r tt (send_same to) (λ message p. absurd (subst (IsIn message) none p)) tt none
        go true e =
            let one : replied d r ≡ bytes ∷ [] = rw e refl in
            message_step r (message_for (f.state).history to) bytes tt (send_same to) (sends_on g n w i s h f.state out b.underway to)
            (told_of (message_for (f.state).history to) bytes (ap message_bytes (message_alike d.state f.state to (lt_is to (members d.state) e) (b.alike).stands)) (sent_is_message f.state to (b.underway).storable)
            (subst (λ (y : ℕ). y ≤ INPUT_BYTES) (sym (message_length 3 (message_over d.state to))) (message_fits d.state to ((b.alike).sane).few)))
            one (λ message p. send_reply to ∙ rw e (reply message (subst (IsIn message) one p))) tt

    told_stays : (to : ℕ) (told : List ℕ) → next_of (Does (orders.SendTold to told)) ≡ f.state
    unfolding answer
    told_stays to told = refl

    told_reply : (to : ℕ) (told : List ℕ) → (answer by_parts d (Does (orders.SendTold to told))).reply ≡ sent_told by_parts d.state to told
    unfolding answer
    told_reply to told = refl

    -- for a member that told these counts
    told_step : (to : ℕ) (told : List ℕ) → Stepped d f out (Does (orders.SendTold to told))
    told_step to told = go (length told == members d.state) refl (nat_lt to (members d.state)) refl
      where
        r : Request
        r = Does (orders.SendTold to told)

        bytes : List ℕ
        bytes = message_bytes (message_told_over d.state to told)

        m : Message
        m = message_told (f.state).history to told

        reply : (message : List ℕ) → IsIn message (bytes ∷ []) → bytes_text (codes "message") bytes ≡ bytes_text (codes "message") message
        reply message (inl q) = ap (bytes_text (codes "message")) q
        reply message (inr q) = absurd q

        go : (counted : Bool) → (length told == members d.state) ≡ counted → (known : Bool) → nat_lt to (members d.state) ≡ known → Stepped d f out r
        go false c known e = let none : replied d r ≡ [] = rw c refl in quiet r tt (told_stays to told) (λ message p. absurd (subst (IsIn message) none p)) tt none
        go true c false e = let none : replied d r ≡ [] = rw (c, e) refl in quiet r tt (told_stays to told) (λ message p. absurd (subst (IsIn message) none p)) tt none
        go true c true e =
            let one : replied d r ≡ bytes ∷ [] = rw (c, e) refl in
            message_step r m bytes tt (told_stays to told) (tells_on g n w i s h f.state out b.underway to told)
            (told_of m bytes (ap message_bytes (message_told_alike d.state f.state to told (lt_is to (members d.state) e) (eq_is (length told) (members d.state) c) (b.alike).stands)) (told_is_message f.state to told (b.underway).storable)
            (subst (λ (y : ℕ). y ≤ INPUT_BYTES) (sym (message_length 3 (message_told_over d.state to told))) (beyond_fits d.state (told_over d.state to told) ((b.alike).sane).few)))
            one (λ message p. told_reply to told ∙ rw (c, e) (reply message (subst (IsIn message) one p))) tt

    take_step : (bytes : List ℕ) → IsBytes bytes → IsIn bytes G.written → Stepped d f out (Takes bytes)
    unfolding answer
    take_step bytes ok given =
        let y = x.written bytes given in
        let m = y.0 in
        let t = f.state in
        let stands = (b.underway).stands in
        let here = at g n w i s h t out in
        let posted = in_left m w.sent out y.1 in
        let whose = (stands.belongs).state i t here in
        let its = (stands.belongs).message m posted in
        let right : ((m.group == group_of t.history) && (m.members == members_of t.history)) ≡ true =
        and_true (m.group == group_of t.history) (m.members == members_of t.history) (eq_test m.group (group_of t.history) (its.0 ∙ sym whose.0)) (eq_test m.members (members_of t.history) (its.1 ∙ sym whose.1)) in
        let p = take_message t m in
        let same : taken by_history f (message_of bytes) ≡ taken_at f p = rw (message_again bytes m y.2, right) refl in
        let q = takes g n w i s h t out b.underway m bytes y.1 y.2 in
        let k = answer_alike d f (Takes bytes) ok b.alike in
        let state : next_of (Takes bytes) ≡ p.state = ap (λ (a : Answered (Sitting State)). (a.state).state) same in
        rested_moves (Takes bytes) p.state (record { underway = q.0; follows = (taking_goes_on None t m, λ o p. message_stays (with_done w i t out) i t m o stands.good here posted p); same = state }) k
        (p.counts.applied, p.counts.released, p.counts.repeated, p.counts.held, ap (with_changes d.tells (message_changes by_parts d.state (message_of bytes))) ((taken_alike d f bytes (message_of bytes) ok refl b.alike).reply ∙ (ap (λ (a : Answered (Sitting State)). a.reply) same ∙ clean_text p.counts q.1)))
        (subst (IsTaken t bytes) (sym state) (message_taken (with_done w i t out) i t stands.good here ((b.underway).storable).rest bytes m posted y.2)) refl

    -- ---- all requests

    pub steps : (r : Request) → IsOther r → IsGiven r → IsWritten G r → Stepped d f out r
    unfolding answer
    steps (Does (orders.Edit line)) other ok given = edit_step line ok
    steps (Does (orders.Change at n cs)) other ok given = absurd other
    steps (Does orders.Undo) other ok given = undo_step
    steps (Does orders.Back) other ok given = back_step
    steps (Does orders.Again) other ok given = again_step
    steps (Does (orders.Point side p k)) other ok given = quiet (Does (orders.Point side p k)) ok (either (ltb (length (text_in f.state)) p) _ _ refl refl) tt tt refl
    steps (Does orders.Text) other ok given = quiet (Does orders.Text) ok refl text_clean tt refl
    steps (Does (orders.Send to)) other ok given = send_step to
    steps (Does (orders.SendTold to told)) other ok given = told_step to told
    steps (Does order) other ok given = quiet (Does order) ok refl tt tt refl
    steps (Takes bytes) other ok given = take_step bytes ok given
