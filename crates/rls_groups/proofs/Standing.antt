-- A session of a member that stands over its file, and the file that its next run stores.
use Rattle.std.proofs.Common.{◌≡◌, ◌∙◌, ◌<◌, ◌≤◌, ℕ, zero, suc, Bool, true, false, cond, ltb, List, [], ◌∷◌, ◌++◌, length, drop, map, Option, Some, Result, Ok, Err, refl, sym, ap, subst, inl, inr, arith}
use Rattle.std.specs.Prelude.{slice_get}
use Rattle.std.proofs.lemmas.Bool.Decides.{nat_tests}
use Rattle.rls_ident.specs.declared.limits.TheConstants.{FILE_BYTES, INPUT_BYTES}
use Rattle.rls_ident.proofs.Members.{eq_refl}
use Rattle.rls_codec.specs.CodecLaws.{IsBytes}
use Rattle.rls_codec.proofs.Formats.{IsBytes-drop, IsBytes-tail}
use Rattle.rls_file.specs.Files.{file_bytes}
use Rattle.rls_model.specs.Parts.{parts}
use Rattle.rls_model.specs.Receiving.{State}
use Rattle.rls_seen.specs.Seen.{Seen}
use Rattle.rls_seen.specs.Stands.{StandsFor}
use Rattle.rls_seen.proofs.Keeping.{parts_alike}
use Rattle.rls_report.specs.declared.failures.CommandError.{CommandError}
use Rattle.rls_report.specs.declared.failures.CommandError.TheVariants.{TooLarge}
use Rattle.rls_stages.specs.KeptFile.{IsFileFor, bytes_over, loaded, replica_in}
use Rattle.rls_stages.proofs.Files.{IsOpened, opened, stands_stored}
use Rattle.rls_top.specs.Groups.{files_with}
use Rattle.rls_top.proofs.GroupCommands.{opened_at}
use Rattle.rls_session.specs.Answers.{Sitting, resumed, sitting_at}
use Rattle.rls_session.specs.Calls.{IsFileOf}
use Rattle.rls_session.specs.Courses.{Course, course, course_of, stretches, stretches_within}
use Rattle.rls_session.specs.Due.{Due, due_of}
use Rattle.rls_session.specs.Endings.{IsKept}
use Rattle.rls_session.specs.Seats.{closed, course_at, respond, resumed_seat, seated}
use Rattle.rls_session.specs.Sessions.{by_history, by_parts}
use Rattle.rls_session.proofs.Given.{IsGiven, cut_given}
use Rattle.rls_session.proofs.AlikeSittings.{IsAlike}
use Rattle.rls_session.proofs.AlikeSeats.{AreSeatsAlike, at_work_alike, respond_alike, seated_alike}
use Rattle.rls_session.proofs.Alike.{resumed_alike}
use Rattle.rls_session.proofs.Courses.{IsSameCourse, courses_alike}
use Rattle.rls_groups.specs.Events as events
use Rattle.rls_groups.specs.Events.{Action, Begins, Deed, Desk, Event, Resumes, Sits, after_run, at_desk, deed_of, desk_after, desk_by, desk_of, desk_on, empty_desk, replica_at, saved_of, session_due, unanswered}
use Rattle.rls_groups.specs.Lives.{Life, lived}
use Rattle.rls_session.specs.Replies.{saved_text}
use Rattle.rls_groups.specs.Runs.{answered_by, actions_over, file_at, goes_on_over}
use Rattle.rls_groups.proofs.Between.{done, set_there, there_still}
use Rattle.rls_groups.proofs.Desks.{IsWell, same_desk, usable_alike, well_empty, well_resumed, well_usable}
use Rattle.rls_groups.proofs.Inputs.{ComeAsFar, come_alike}
use Rattle.rls_groups.proofs.Sessions.{EndsSo, ends_so}

-- ---- one store

pub alike_course : (d : Sitting Seen) (u : Sitting State) (input : List ℕ) → IsBytes input → IsAlike d u → IsSameCourse IsAlike (course_at by_parts d input) (course_at by_history u input)
alike_course d u input b h =
    let same = courses_alike (respond by_parts) (respond by_history) AreSeatsAlike IsGiven IsBytes (λ d f r g k. let a = respond_alike d f r g k in (a.reply, a.states)) (λ x bytes c. (cut_given (x ∷ bytes) c, IsBytes-tail x bytes c)) 0 (seated d) (seated u) input b (seated_alike d u h) in
    record { replies = same.replies; used = same.used; stores = same.stores; states = at_work_alike _ _ same.states }

bytes_of_state : (s : Seen) (t : State) → StandsFor s t → bytes_over s ≡ file_bytes (parts t)
bytes_of_state s t h = ap file_bytes (parts_alike s t h)

ending_long : (c : Course (Sitting Seen)) → INPUT_BYTES < c.used → (due_of c).ending ≡ Err TooLarge
ending_long c h = let test : ltb INPUT_BYTES c.used ≡ true = grind (arith, nat_tests) in rw test refl

-- two courses that are the same to one history store the same bytes
same_bytes : (c k : Course (Sitting Seen)) (f : Course (Sitting State)) → IsSameCourse IsAlike c f → IsSameCourse IsAlike k f → (due_of c).ending ≡ Ok (c.state).state → (due_of k).ending ≡ Ok (k.state).state
same_bytes c k f same other is = go (ends_so c) (ends_so k)
  where
    equal : length (bytes_over (k.state).state) ≡ length (bytes_over (c.state).state)
    equal = ap length (bytes_of_state (k.state).state (f.state).state (other.states).stands ∙ sym (bytes_of_state (c.state).state (f.state).state (same.states).stands))

    never : (Ok (c.state).state ≡ Err TooLarge) → ⊥
    never e = cc

    go : EndsSo c → EndsSo k → (due_of k).ending ≡ Ok (k.state).state
    go x (inl y) = y.0
    go (inr x) (inr y) = absurd (never (sym is ∙ x.0))
    go (inl x) (inr (e, inl long)) = absurd (never (sym is ∙ ending_long c (omega (arith, long, same.used, other.used))))
    go (inl x) (inr (e, inr large)) = absurd (omega (arith, x.1, large, equal))

-- ---- from store to store

-- what comes after a stretch, of what is called for and of what the session does
unfoldable pub mine : ℕ → Sitting Seen → List ℕ → Bool → List Due
mine m d input x = map due_of (map (closed by_parts) (map (course_of (respond by_parts)) (cond x (stretches_within (respond by_parts) (resumed_seat by_parts) m (seated (resumed by_parts (course_at by_parts d input).state)) (drop (suc (course_at by_parts d input).used) input)) [])))

unfoldable pub theirs : ℕ → List ℕ → Bool → ℕ → List Action
theirs m input x k = goes_on_over (cond x (stretches_within unanswered (λ u. u) m tt (drop (suc k) input)) [])

-- of what it does, beginning with this
abbrev pub acts : ℕ → Action → List ℕ → List Action
acts zero action input = []
acts (suc m) action input = action ∷ theirs m input (course unanswered tt input).stores (course unanswered tt input).used

pub goes_on : (m : ℕ) (input : List ℕ) (k : ℕ) → theirs m input true k ≡ acts m (Resumes (drop (suc k) input)) (drop (suc k) input)
unfolding theirs
goes_on zero input k = refl
goes_on (suc m) input k = refl

pub none_both : (m : ℕ) (d : Sitting Seen) (input : List ℕ) (x : Bool) (k : ℕ) → mine m d input x ≡ [] → theirs m input x k ≡ []
unfolding mine theirs
none_both m d input false k e = refl
none_both zero d input true k e = refl
none_both (suc m) d input true k e = absurd cc

pub as_far : (d : Sitting Seen) (input : List ℕ) → ComeAsFar (respond by_parts) unanswered (course (respond by_parts) (seated d) input) (course unanswered tt input)
as_far d input = come_alike (respond by_parts) unanswered 0 (seated d) tt input

module _ (i : ℕ) where
  -- A session of the member stands here: over a file that stands for a history, it answers as over the history, and goes back to nothing else.
  -- What it does next is this, over this input.
  pub record Stands (l : Life) (action : Action) (bytes : List ℕ) (d : Sitting Seen) (f : Sitting State) (input : List ℕ) : Type 0 where
    pub member : i < length (l.group).files
    pub at : file_at l.group i ≡ Some bytes
    pub short : length bytes ≤ FILE_BYTES
    pub for : IsFileFor bytes f.state
    pub given : IsBytes input
    pub alike : IsAlike d f
    pub well : IsWell f.state (desk_of f)
    pub does : deed_of (l.desks i) action ≡ Sits (desk_of f) input

  abbrev pub next : Life → Action → Life
  next l action = lived l (done i action)

  module _ (l : Life) (action : Action) (bytes : List ℕ) (d : Sitting Seen) (f : Sitting State) (input : List ℕ) (h : Stands l action bytes d f input) where
    abbrev pub course_here : Course (Sitting Seen)
    course_here = course_at by_parts d input

    abbrev pub stored_here : List ℕ
    stored_here = bytes_over (course_here.state).state

    abbrev pub rest_here : List ℕ
    rest_here = drop (suc course_here.used) input

    same : IsSameCourse IsAlike course_here (course_at by_history f input)
    same = alike_course d f input h.given h.alike

    o : (s : Seen) × IsOpened bytes f.state s
    o = opened bytes f.state h.for

    -- the session over the file that is stored
    abbrev again : Sitting Seen
    again = at_desk o.0 (desk_of f)

    found : replica_at l.group i ≡ Ok o.0
    found = ap (λ (k : Option (List ℕ)). replica_in (loaded k)) h.at ∙ opened_at bytes o.0 h.short o.1.found

    other : IsSameCourse IsAlike (course_at by_parts again input) (course_at by_history f input)
    other =
        let k = usable_alike bytes o.0 f.state (desk_of f) o.1 (well_usable o.0 f.state (desk_of f) o.1.stands h.well) in
        alike_course again f input h.given (record { stands = k.stands; sane = k.sane; writable = k.writable; entries = refl; cursors = refl; tells = refl; whole = k.whole; texts = k.texts; steps = k.steps })

    ending : (due_of course_here).ending ≡ Ok (course_here.state).state → (due_of (course_at by_parts again input)).ending ≡ Ok ((course_at by_parts again input).state).state
    ending is = same_bytes course_here (course_at by_parts again input) (course_at by_history f input) same other is

    -- is stored by the event
    pub stored_at : (due_of course_here).ending ≡ Ok (course_here.state).state → Some stored_here ≡ file_at (next l action).group i
    stored_at is = saved ∙ (sym (there (replica_at l.group i) found) ∙ ap (λ (deed : Deed). file_at (after_run true l.group i deed) i) (sym h.does))
      where
        saved : Some stored_here ≡ Some (bytes_over ((course_at by_parts again input).state).state)
        saved = ap (λ (x : List ℕ). Some x) (bytes_of_state _ ((course_at by_history f input).state).state (same.states).stands ∙ sym (bytes_of_state _ ((course_at by_history f input).state).state (other.states).stands))

        there : (x : Result Seen CommandError) → x ≡ Ok o.0 → slice_get (files_with (l.group).files i (saved_of (events.due_on x (desk_of f) input).ending)) i ≡ Some (bytes_over ((course_at by_parts again input).state).state)
        there x e = rw (e, ending is) (set_there l.group i ((course_at by_parts again input).state).state h.member)

    -- and the session goes on with this
    desk_then : (due_of course_here).ending ≡ Ok (course_here.state).state → (next l action).desks i ≡ desk_of (resumed by_history (course_at by_history f input).state)
    desk_then is = rw (eq_refl i) (ap (desk_after l.group i) h.does ∙ (there (replica_at l.group i) found ∙ same_desk _ _ (resumed_alike _ _ other.states)))
      where
        there : (x : Result Seen CommandError) → x ≡ Ok o.0 → desk_on x (desk_of f) input ≡ desk_of (resumed by_parts (course_at by_parts again input).state)
        there x e = rw (e, ending is) refl

    -- what is answered is what the event says
    pub answers : answered_by l.group i (deed_of (l.desks i) action) ≡ (due_of course_here).replies ++ saved_text
    answers = ap (answered_by l.group i) h.does ∙ (ap (λ (x : Result Seen CommandError). (events.due_on x (desk_of f) input).replies ++ saved_text) found ∙ ap (λ (bs : List ℕ). bs ++ saved_text) (other.replies ∙ sym same.replies))

    pub stands_then : (due_of course_here).ending ≡ Ok (course_here.state).state → length stored_here ≤ FILE_BYTES → IsFileFor stored_here ((course_at by_history f input).state).state →
        Stands (next l action) (Resumes rest_here) stored_here (resumed by_parts course_here.state) (resumed by_history (course_at by_history f input).state) rest_here
    stands_then is short for = record {
      member = there_still i l (done i action) h.member;
      at = sym (stored_at is);
      short = short;
      for = for;
      given = IsBytes-drop (suc course_here.used) input h.given;
      alike = resumed_alike _ _ same.states;
      well = let w = well_resumed course_here.state (course_at by_history f input).state same.states in record { entries = w.entries; cursors = w.cursors; named = w.named; texts = w.texts; spelled = w.spelled };
      does = ap (λ (desk : Desk). Sits desk rest_here) (desk_then is);
    }

    -- what is kept after a course that is stored
    pub kept_at_end : (now : Option (Option (List ℕ))) → IsKept (due_of course_here).ending (Some (Some bytes)) now
        → ((due_of course_here).ending ≡ Ok (course_here.state).state) × (now ≡ Some (Some stored_here)) × (length stored_here ≤ FILE_BYTES) × IsFileFor stored_here ((course_at by_history f input).state).state
    kept_at_end now k = go (ends_so course_here) k
      where
        go : EndsSo course_here → IsKept (due_of course_here).ending (Some (Some bytes)) now → ((due_of course_here).ending ≡ Ok (course_here.state).state) × (now ≡ Some (Some stored_here)) × (length stored_here ≤ FILE_BYTES) × IsFileFor stored_here ((course_at by_history f input).state).state
        go (inl e) k =
            let here = subst (λ (x : Result Seen CommandError). IsKept x (Some (Some bytes)) now) e.0 k in
            (e.0, here.0, e.1, stands_stored (course_here.state).state ((course_at by_history f input).state).state (same.states).stands here.1)
        go (inr e) k = absurd (subst (λ (x : Result Seen CommandError). IsKept x (Some (Some bytes)) now) e.0 k)

    -- what is stored after it
    pub file_stored : (b : List ℕ) → IsFileOf (due_of course_here).ending b → ((due_of course_here).ending ≡ Ok (course_here.state).state) × (b ≡ stored_here) × (length stored_here ≤ FILE_BYTES) × IsFileFor stored_here ((course_at by_history f input).state).state
    file_stored b k = go (ends_so course_here)
      where
        go : EndsSo course_here → ((due_of course_here).ending ≡ Ok (course_here.state).state) × (b ≡ stored_here) × (length stored_here ≤ FILE_BYTES) × IsFileFor stored_here ((course_at by_history f input).state).state
        go (inl e) =
            let here = subst (λ (x : Result Seen CommandError). IsFileOf x b) e.0 k in
            (e.0, here.0, e.1, stands_stored (course_here.state).state ((course_at by_history f input).state).state (same.states).stands here.1)
        go (inr e) = absurd (subst (λ (x : Result Seen CommandError). IsFileOf x b) e.0 k)

  -- ---- from the beginning

  abbrev pub first_stands : Life → List ℕ → State → List ℕ → Seen → Type 0
  first_stands l bytes t input s = Stands l (Begins input) bytes (sitting_at s) (sitting_at t) input

  pub stands_first : (l : Life) (bytes : List ℕ) (t : State) (input : List ℕ) (o : (s : Seen) × IsOpened bytes t s) → i < length (l.group).files → file_at l.group i ≡ Some bytes → length bytes ≤ FILE_BYTES → IsFileFor bytes t → IsBytes input → first_stands l bytes t input o.0
  stands_first l bytes t input o m at short for b =
      let w = well_empty t in
      let k = usable_alike bytes o.0 t empty_desk o.1 (well_usable o.0 t empty_desk o.1.stands w) in
      record {
        member = m;
        at = at;
        short = short;
        for = for;
        given = b;
        alike = record { stands = k.stands; sane = k.sane; writable = k.writable; entries = refl; cursors = refl; tells = refl; whole = k.whole; texts = k.texts; steps = k.steps };
        well = w;
        does = refl;
      }

-- all that a session does
pub acts_all : (input : List ℕ) → acts (suc (length input)) (Begins input) input ≡ actions_over input
unfolding theirs stretches
acts_all input = refl
