-- A request of a session of a group, where something may be drafted: the draft is made, and then it is answered; or a change goes on with the draft.
use Rattle.std.proofs.Common.{◌≡◌, ◌∙◌, ◌+◌, ◌≤◌, ℕ, Bool, true, false, cond, ◌⊎◌, List, [], ◌∷◌, ◌++◌, length, Option, Some, None, refl, sym, ap, subst, inl, inr}
use Rattle.std.proofs.lemmas.List.{append-nil}
use Rattle.rls_ops.specs.declared.message.Message.{Message}
use Rattle.rls_model.specs.declared.edit.Edit.{Edit}
use Rattle.rls_model.specs.declared.edit.EditError.{EditError}
use Rattle.rls_model.specs.Document.{text}
use Rattle.rls_model.specs.Laws.{IsAt, IsFront}
use Rattle.rls_model.specs.Editing.{made as made_in}
use Rattle.rls_model.specs.Receiving.{State, accept}
use Rattle.rls_model.specs.Worlds.{World}
use Rattle.rls_model.proofs.HistoryNumbers.{front_trans}
use Rattle.rls_model.proofs.NothingReady.{IsAtRest}
use Rattle.rls_seen.specs.Seen.{Seen, text_over}
use Rattle.rls_seen.specs.Edits.{edited}
use Rattle.rls_seen.specs.Stands.{StandsFor}
use Rattle.rls_seen.proofs.Editing.{edit_faults_alike, edited_stands}
use Rattle.rls_seen.proofs.Keeping.{text_alike}
use Rattle.rls_seen.proofs.Releasing.{first_alike}
use Rattle.rls_stages.specs.Lines.{allowed_by, fault_in, text_in}
use Rattle.rls_top.specs.Groups.{Group}
use Rattle.rls_top.proofs.Groups.{Matches}
use Rattle.rls_session.specs.declared.draft.Draft.{Draft}
use Rattle.rls_session.specs.declared.orders.Order.TheVariants as orders
use Rattle.rls_session.specs.Answers.{Kind, Sitting, answer}
use Rattle.rls_session.specs.Courses.{Answered}
use Rattle.rls_session.specs.Drafts.{draft_of, is_none, merged, shown_by}
use Rattle.rls_session.specs.InPlace.{draft_lines}
use Rattle.rls_session.specs.InPlace as in_place
use Rattle.rls_session.specs.Replies.{noted_text}
use Rattle.rls_session.specs.Requests.{Request, Does}
use Rattle.rls_session.specs.Seats.{Seat, at_work, begun_at, begun_draft, changed, draft_fault, goes_with, made_all, made_each, plan, respond, says_at, seat_of, seated, shown, worked}
use Rattle.rls_session.specs.SessionLaws.{AreUnawaited}
use Rattle.rls_session.specs.Sessions.{by_history, by_parts}
use Rattle.rls_session.proofs.AlikeSeats.{AreSeatsAlike, at_work_alike, plan_alike, respond_alike, seated_alike}
use Rattle.rls_session.proofs.AlikeSittings.{IsAlike}
use Rattle.rls_session.proofs.Drafting.{draft_within, total_is}
use Rattle.rls_session.proofs.Fitting.{AreFit, IsMade, made_draft}
use Rattle.rls_session.proofs.Given.{IsGiven}
use Rattle.rls_session.proofs.InPlace.{AreDone, draft_made}
use Rattle.rls_session.proofs.Shown.{change_shows}
use Rattle.rls_groups.specs.Events.{IsWritten, replied_from}
use Rattle.rls_groups.specs.Groups.{AreMade, GoesOn, IsAnswered, IsClean, IsDraftMade, IsMadeAlone, IsMadeBefore, IsStored, state_after}
use Rattle.rls_groups.proofs.Answered.{Both, IsOther, IsTold, Stepped, rested_at, steps}
use Rattle.rls_groups.proofs.Making.{after_each, all_state, each_made, each_rests, each_stands, fit_alike}
use Rattle.rls_groups.proofs.Requests.{Steps}
use Rattle.rls_groups.proofs.Staying.{Follows, follows_self, follows_trans, has_or_holds, is_there}
use Rattle.rls_groups.proofs.Steps.{IsUnderway, edits as edits_on}

-- ---- in a group

module _ (g n : ℕ) (G : Group) (w : World) (x : Matches g n G w) (i : ℕ) (s : State) (h : IsAt w i s) where
  -- the seats over the replica and over the history are alike, and the member's history has come to this in a good world
  pub record Seats (b : Seat Seen) (c : Seat State) (out : List Message) : Type 0 where
    pub alike : AreSeatsAlike b c
    pub underway : IsUnderway g n w i (c.sitting).state out
    pub front : IsFront s.history ((c.sitting).state).history

  -- what is drafted is made
  pub record IsMadeWell (b : Seat Seen) (c : Seat State) (out : List Message) : Type 0 where
    pub both : Both g n G w x i s h (at_work by_parts b) (at_work by_history c) out
    pub follows : Follows (c.sitting).state (at_work by_history c).state
    pub edits : AreMade (allowed_by fault_in) (c.sitting).state (plan by_history (c.sitting).state c.draft) (at_work by_history c).state
    pub text_is : text_in (at_work by_history c).state ≡ shown by_history c
    pub lines : in_place.state_after (answer by_history) c.sitting (draft_lines by_history c) ≡ at_work by_history c
    pub shows : text_over (at_work by_parts b).state ≡ shown by_parts b
    pub unawaited : IsMadeAlone b

  shown_alike : (b : Seat Seen) (c : Seat State) → AreSeatsAlike b c → shown by_parts b ≡ shown by_history c
  shown_alike b c k = ap (shown_by b.draft) (text_alike (b.sitting).state (c.sitting).state (k.sittings).stands) ∙ ap (λ p. shown_by p (text_in (c.sitting).state)) k.draft

  -- after each of these edits nothing that waits is ready
  each_unawaited : (es : List Edit) (d : Seen) (t : State) (out : List Message) → StandsFor d t → AreFit d es → IsUnderway g n w i t out → AreUnawaited d es
  each_unawaited [] d t out stands f u = tt
  each_unawaited (e ∷ es) d t out stands f u =
      let v = accept t (made_in t.history e) in
      let after = edited_stands d t e f.0 f.1 stands in
      let j = edits_on g n w i s h t out u e f.0 (sym (edit_faults_alike d t e stands) ∙ f.1) in
      (rested_at (edited d e) (first_alike (edited d e) v after ∙ (j.storable).rest), each_unawaited es (edited d e) v out after f.2 j)

  pub made_well : (b : Seat Seen) (c : Seat State) (out : List Message) → Seats b c out → IsMadeWell b c out
  made_well b c out k = record {
    both = record { alike = alike; underway = subst (λ (t : State). IsUnderway g n w i t out) (sym here) each.0; front = front_trans s.history (f.state).history (at_work by_history c).state.history k.front follows.0 };
    follows = follows;
    edits = subst (λ (es : List Edit). AreMade (allowed_by fault_in) f.state es (at_work by_history c).state) same (subst (AreMade (allowed_by fault_in) f.state es) (sym here) each.2);
    text_is = ap (λ (t : State). text_in t) here ∙ (text_then ∙ shown_alike b c k.alike);
    lines = draft_made by_history c (subst (AreDone by_history f.state) same (each_rests g n w i s h es f.state out (fit_alike es d.state f.state those.stands draft.fit) k.underway));
    shows = text_alike (at_work by_parts b).state (at_work by_history c).state alike.stands ∙ (ap (λ (t : State). text_in t) here ∙ text_then);
    unawaited = (rested_at made.state (first_alike made.state u stands ∙ ((each.0).storable).rest), each_unawaited es d.state f.state out those.stands draft.fit k.underway);
  }
    where
      d : Sitting Seen
      d = b.sitting

      f : Sitting State
      f = c.sitting

      those : IsAlike d f
      those = (k.alike).sittings

      es : List Edit
      es = plan by_parts d.state b.draft

      u : State
      u = after_each f.state es

      draft : IsMade d b.draft those.sane (k.alike).text es
      draft = made_draft d b.draft those.sane (k.alike).text (k.alike).drafted

      same : es ≡ plan by_history f.state c.draft
      same = plan_alike d.state f.state those.stands b.draft ∙ ap (plan by_history f.state) (k.alike).draft

      each : IsUnderway g n w i u out × Follows f.state u × AreMade (allowed_by fault_in) f.state es u
      each = each_made g n w i s h es f.state out (fit_alike es d.state f.state those.stands draft.fit) k.underway

      here : (at_work by_history c).state ≡ u
      here = ap (λ (es : List Edit). (made_all by_history f es).state) (sym same) ∙ all_state es f ((each.0).storable).rest

      follows : Follows f.state (at_work by_history c).state
      follows = subst (Follows f.state) (sym here) each.1

      alike : IsAlike (at_work by_parts b) (at_work by_history c)
      alike = at_work_alike b c k.alike

      made : Sitting Seen
      made = made_each by_parts d es

      stands : StandsFor made.state u
      stands = each_stands es d f.state those.stands draft.fit

      text_then : text u.history ≡ shown by_parts b
      text_then = sym (text_alike made.state u stands) ∙ draft.shown

  -- what comes later, with what is drafted then
  abbrev pub Later : Seat State → Seat State → Type 0
  Later e u = Follows (e.sitting).state (u.sitting).state × Follows (u.sitting).state (at_work by_history u).state × IsAtRest (at_work by_history u).state

  pub later_self : (b : Seat Seen) (c : Seat State) (out : List Message) → Seats b c out → Later c c
  later_self b c out k = let m = made_well b c out k in (follows_self (c.sitting).state, m.follows, (((m.both).underway).storable).rest)

  pub later_trans : (e c u : Seat State) → Later e c → Later c u → Later e u
  later_trans e c u h k = (follows_trans (e.sitting).state (c.sitting).state (u.sitting).state h.0 k.0, k.1, k.2)

  -- a history goes on to the one that is stored
  goes_on : (t : State) (u : Seat State) → Follows t (u.sitting).state → Follows (u.sitting).state (at_work by_history u).state → IsAtRest (at_work by_history u).state → GoesOn t (at_work by_history u).state
  goes_on t u first then rest = let all = follows_trans t (u.sitting).state (at_work by_history u).state first then in (all.0, λ o p. has_or_holds (at_work by_history u).state o rest (all.1 o (is_there t o p)))

  abbrev pub IsDone : Seat State → Seat State → Request → Type 0
  IsDone u c r = IsStored (at_work by_history u).state c r

  abbrev pub IsCleanFrom : Seat Seen → Request → Type 0
  IsCleanFrom b r = IsMadeAlone b × IsClean G b r

  abbrev pub SeatStepped : Seat Seen → Seat State → List Message → Request → Type 0
  SeatStepped b c out r = Steps (respond by_parts) (respond by_history) replied_from Seats Later (λ b r. IsWritten G r) IsCleanFrom IsDone (IsTold g n G w x i s h) b c out r

  module _ (b : Seat Seen) (c : Seat State) (out : List Message) (k : Seats b c out) where
    well : IsMadeWell b c out
    well = made_well b c out k

    -- the draft is made before this seat
    pub drafts_made : (u : Seat State) → Follows (at_work by_history c).state (u.sitting).state → Later u u → IsDraftMade (at_work by_history u).state c
    drafts_made u first l = record { edits = well.edits; text = well.text_is; lines = well.lines; goes_on = goes_on (at_work by_history c).state u first l.1 l.2 }

    -- ---- each request but a change

    record IsWorked (r : Request) : Type 0 where
      parts : respond by_parts b r ≡ worked by_parts b r
      history : respond by_history c r ≡ worked by_history c r
      clean : IsClean G (seated (at_work by_parts b)) r → IsClean G b r
      answered : IsAnswered (seated (at_work by_history c)) r → IsAnswered c r
      before : (u : State) → IsDraftMade u c → IsMadeBefore u c r

    is_worked : (r : Request) → IsOther r → IsWorked r
    is_worked (Does (orders.Edit line)) other =
        record { parts = refl; history = refl; clean = λ h. h; answered = λ h edit e. let q = h edit e in record { reply = q.reply; edit_is = q.edit_is; fits = q.fits; state = q.state }; before = λ u h. h }
    is_worked (Does (orders.Change at n cs)) other = absurd other
    is_worked r other = record { parts = refl; history = refl; clean = λ h. h; answered = λ h. h; before = λ u h. h }

    lifted : (r : Request) → IsWorked r → Stepped g n G w x i s h (at_work by_parts b) (at_work by_history c) out r → SeatStepped b c out r
    lifted r q j =
        let f = at_work by_history c in
        let v = (answer by_history f r).state in
        let on : Follows f.state v.state = (j.later).0 in
        let here : Follows f.state (state_after (respond by_history c r)) = subst (λ (a : Answered (Seat State)). Follows f.state (state_after a)) (sym q.history) on in
        record {
          more = j.more;
          reply = ap (λ (a : Answered (Seat Seen)). a.reply) q.parts ∙ (j.reply ∙ sym (ap (λ (a : Answered (Seat State)). a.reply) q.history));
          next = subst (λ (a : Answered (Seat Seen)). Seats a.state (respond by_history c r).state (out ++ j.more)) (sym q.parts)
              (subst (λ (a : Answered (Seat State)). Seats (worked by_parts b r).state a.state (out ++ j.more)) (sym q.history)
              (record { alike = seated_alike _ _ (j.next).alike; underway = (j.next).underway; front = (j.next).front }));
          later = subst (λ (a : Answered (Seat State)). Later c a.state) (sym q.history) (follows_trans (c.sitting).state f.state v.state well.follows on, follows_self v.state, (j.later).1);
          clean = (well.unawaited, q.clean j.clean);
          meant = λ u l. (
            q.before (at_work by_history u).state (drafts_made u (follows_trans f.state (state_after (respond by_history c r)) (u.sitting).state here l.0) (follows_self (u.sitting).state, l.1, l.2)),
            goes_on (state_after (respond by_history c r)) u l.0 l.1 l.2,
            q.answered (j.meant v (follows_self v.state, (j.later).1)),
          );
          told = j.told;
        }

    -- ---- a change

    -- it goes on with the draft, or that is made
    changed_at : {X : Type 0} (K : Kind X) (e : Seat X) (p : Draft) → (((changed K e p).state).sitting ≡ e.sitting) ⊎ (((changed K e p).state).sitting ≡ at_work K e)
    changed_at {X} K e p = go (goes_with K (e.sitting).state e.draft p)
      where
        begun : (o : Option EditError) → ((begun_draft (at_work K e) p o).state).sitting ≡ at_work K e
        begun None = refl
        begun (Some f) = refl

        go : (y : Bool) → let a = cond {A = Answered (Seat X)} y (says_at noted_text (seat_of e.sitting (merged e.draft p))) (begun_at K (at_work K e) p) in ((a.state).sitting ≡ e.sitting) ⊎ ((a.state).sitting ≡ at_work K e)
        go true = inl refl
        go false = inr (begun (draft_fault K (at_work K e).state p))

    within : is_none b.draft ≡ false → (b.draft).at + (b.draft).count ≤ length (text_over (b.sitting).state)
    within some = subst (λ m. (b.draft).at + (b.draft).count ≤ m) (sym (total_is (b.sitting).state)) (draft_within (b.sitting).state b.draft some (k.alike).drafted)

    within_history : is_none c.draft ≡ false → (c.draft).at + (c.draft).count ≤ length (text_in (c.sitting).state)
    within_history some =
        subst (λ (p : Draft). p.at + p.count ≤ length (text_in (c.sitting).state)) (k.alike).draft
        (subst (λ (cs : List ℕ). (b.draft).at + (b.draft).count ≤ length cs) (text_alike (b.sitting).state (c.sitting).state ((k.alike).sittings).stands) (within (ap is_none (k.alike).draft ∙ some)))

    change_step : (at m : ℕ) (cs : List ℕ) → IsGiven (Does (orders.Change at m cs)) → SeatStepped b c out (Does (orders.Change at m cs))
    change_step at m cs ok = go (changed_at by_history c (draft_of at m cs))
      where
        r : Request
        r = Does (orders.Change at m cs)

        next : Seat State
        next = (respond by_history c r).state

        stepped : (IsUnderway g n w i (next.sitting).state out) → Follows (c.sitting).state (next.sitting).state → ((u : Seat State) → Later next u → IsMadeBefore (at_work by_history u).state c r) → SeatStepped b c out r
        stepped underway follows before =
            let a = respond_alike b c r ok k.alike in
            let seats : Seats (respond by_parts b r).state next (out ++ []) =
            record { alike = a.states; underway = subst (IsUnderway g n w i (next.sitting).state) (sym (append-nil out)) underway; front = front_trans s.history ((c.sitting).state).history ((next.sitting).state).history k.front follows.0 } in
            let l = later_self (respond by_parts b r).state next (out ++ []) seats in
            record {
              more = [];
              reply = a.reply;
              next = seats;
              later = (follows, l.1, l.2);
              clean = (well.unawaited, change_shows by_parts b (draft_of at m cs) within well.shows);
              meant = λ u l. (before u l, goes_on (next.sitting).state u l.0 l.1 l.2, change_shows by_history c (draft_of at m cs) within_history well.text_is);
              told = λ y p. absurd p;
            }

        go : (next.sitting ≡ c.sitting) ⊎ (next.sitting ≡ at_work by_history c) → SeatStepped b c out r
        go (inl e) =
            stepped (subst (λ (f : Sitting State). IsUnderway g n w i f.state out) (sym e) k.underway) (subst (λ (f : Sitting State). Follows (c.sitting).state f.state) (sym e) (follows_self (c.sitting).state)) (λ u l. inl e)
        go (inr e) =
            stepped (subst (λ (f : Sitting State). IsUnderway g n w i f.state out) (sym e) (well.both).underway) (subst (λ (f : Sitting State). Follows (c.sitting).state f.state) (sym e) well.follows)
            (λ u l. inr (e, drafts_made u (subst (λ (f : Sitting State). Follows f.state (u.sitting).state) e l.0) (follows_self (u.sitting).state, l.1, l.2)))

    -- ---- all requests

    others : (r : Request) → IsOther r → IsGiven r → IsWritten G r → SeatStepped b c out r
    others r other ok given = lifted r (is_worked r other) (steps g n G w x i s h (at_work by_parts b) (at_work by_history c) out well.both r other ok given)

    pub seat_steps : (r : Request) → IsGiven r → IsWritten G r → SeatStepped b c out r
    seat_steps (Does (orders.Change at n cs)) ok given = change_step at n cs ok
    seat_steps r ok given = others r tt ok given
