-- What the clauses of commands and sessions say of a run in a group.
use Rattle.std.proofs.Common.{◌≡◌, ◌∙◌, ◌<◌, ◌≢◌, ◌++◌, ℕ, Bool, List, [], ◌∷◌, length, Option, Some, None, IfSome, Result, Ok, Err, refl, sym, ap, subst, inl, inr, ⊎_elim}
use Rattle.std.specs.Prelude.{IfOk, IsFalse, map, slice_get}
use Rattle.rls_ident.specs.Lists.{IsIn}
use Rattle.rls_ident.proofs.Members.{some_is}
use Rattle.rls_io.specs.Device.{Appends}
use Rattle.rls_journal.specs.Areas.{Areas, kept}
use Rattle.rls_journal.specs.Disk.{LeavesOnly}
use Rattle.rls_seen.specs.Seen.{Seen}
use Rattle.rls_report.specs.declared.failures.CommandError.{CommandError}
use Rattle.rls_stages.specs.KeptFile.{bytes_over, loaded, replica_in}
use Rattle.rls_top.specs.declared.words.Command.{Command}
use Rattle.rls_top.specs.declared.words.Command.TheVariants.{New, OnFile, Trial}
use Rattle.rls_top.specs.declared.words.FileCommand.{FileCommand}
use Rattle.rls_top.specs.declared.words.FileCommand.TheVariants.{Edit, Text, Ids, Stat, Send, Take, Leave}
use Rattle.rls_top.specs.Calls as commands
use Rattle.rls_top.specs.Due.{Due, Makes, NoCommand, Stops, due, due_at, due_of_new, due_of_words, due_on, error_of_numbers}
use Rattle.rls_top.specs.Endings.{IsKept, IsWritten}
use Rattle.rls_top.specs.Groups.{Group, files_with, messages_of}
use Rattle.rls_top.specs.Words.{command_of}
use Rattle.rls_session.specs.Answers.{sitting_at}
use Rattle.rls_session.specs.Calls.{AreDue, AreFilesOf, IsFileOf, tried}
use Rattle.rls_session.specs.Courses.{Course}
use Rattle.rls_session.specs.Due as session
use Rattle.rls_session.specs.Endings.{Ends, EndsIn, FailsAt}
use Rattle.rls_session.specs.Endings as endings
use Rattle.rls_session.specs.Replies.{saved_text}
use Rattle.rls_session.specs.Seats.{Seat, closed, respond, resumed_seat, seated}
use Rattle.rls_session.specs.Sessions.{by_parts}
use Rattle.rls_session.proofs.Courses.{courses_end}
use Rattle.rls_journal.proofs.Moments.{leaves_weaker}
use Rattle.rls_groups.specs.Stops.{IsOld, IsOldOrOneOf, LeavesOldOrDue}
use Rattle.rls_journal.specs.Keeper.{IsOldOrNew}
use Rattle.rls_groups.specs.Events as events
use Rattle.rls_groups.specs.Events.{Action, Begins, Performs, empty_desk, printed_of, replica_at, saved_of, session_at, session_due, stored_of}
use Rattle.rls_groups.specs.Lives.{Life}
use Rattle.rls_groups.specs.Runs.{CommandsLeave, IsFileAfter, IsLeft, SessionsLeave, StopsLeave, StoresAtEnd, file_at}
use Rattle.rls_groups.proofs.Between.{all_done, file_after, set_there, written_after}

-- ---- the file of a member

-- what is kept, by what is called for
kept_after : (g : Group) (i : ℕ) (now : Option (List ℕ)) (d : Due) → i < length g.files → IsKept d (Some (file_at g i)) (Some now) → now ≡ slice_get (files_with g.files i (stored_of (Some d))) i
kept_after g i now NoCommand l k = absurd k
kept_after g i now (Makes None report refused) l k = some_is now (file_at g i) k.0
kept_after g i now (Makes (Some s) report refused) l k = some_is now (Some (bytes_over s)) k.0 ∙ sym (set_there g i s l)
kept_after g i now (Stops e) l k = absurd k

-- ---- commands

-- what is called for is known if the file and the input are
due_at_told : (c : FileCommand) (s : Seen) (input : List ℕ) → (d : Due) × (due_at c s (Some input) ≡ Some d)
due_at_told Text s input = (_, refl)
due_at_told Ids s input = (_, refl)
due_at_told Stat s input = (_, refl)
due_at_told (Send to) s input = (_, refl)
due_at_told Edit s input = (_, refl)
due_at_told Take s input = (_, refl)
due_at_told Leave s input = (_, refl)

words_told : (c : Option Command) (file : Option (List ℕ)) (input : List ℕ) → (d : Due) × (due_of_words c (Some file) (Some input) ≡ Some d)
words_told None file input = (NoCommand, refl)
words_told (Some (New group me members)) file input = go (error_of_numbers me members)
  where
    go : (e : Option CommandError) → (d : Due) × (due_of_new e group me members (Some file) ≡ Some d)
    go (Some e) = (_, refl)
    go None = (_, refl)
words_told (Some (Trial seed steps)) file input = (_, refl)
words_told (Some (OnFile c)) file input = go (replica_in (loaded file))
  where
    go : (r : Result Seen CommandError) → (d : Due) × (due_on c r (Some input) ≡ Some d)
    go (Ok s) = due_at_told c s input
    go (Err e) = (Stops e, refl)

-- of the message that is printed
printed : (c : Option Command) (d : Due) (to : ℕ) (old new : List ℕ) → c ≡ Some (OnFile (Send to)) → IsWritten d (Some old) (Some new) → (message : List ℕ) × (new ≡ old ++ message) × IsIn message (printed_of c (Some d))
printed c NoCommand to old new e k = absurd k
printed c (Makes stored report refused) to old new e k = (report, some_is new (old ++ report) k, subst (λ (x : Option Command). IsIn report (messages_of x report)) (sym e) (inl refl))
printed c (Stops x) to old new e k = absurd k

pub commands_leave : {K S W : Type 0} (file_of : K → Option (Option (List ℕ))) (keeper_faults : K → ℕ) (load : K → Bool → K → Type 0) (store : K → List ℕ → Bool → K → Type 0) (left_of : S → Option (List ℕ)) (input_faults : S → ℕ) (told_of : W → Option (List ℕ)) (output_faults : W → ℕ)
    → CommandsLeave file_of keeper_faults load store left_of input_faults told_of output_faults
commands_leave file_of keeper_faults load store left_of input_faults told_of output_faults l i words input n keeper_old keeper_new input_old input_new output_old output_new m e before given =
    let g = l.group in
    let q = words_told (command_of words) (file_at g i) input in
    let d = q.0 in (
      λ now after. (
        λ stored. file_after i l (Performs words input ∷ []) now m
            (kept_after g i now d m (subst (λ (o : Option Due). IfSome o (λ d. IsKept d (Some (file_at g i)) (Some now))) q.1 (rw after at (rw given at (rw before at (e.file stored))))) ∙ ap (λ (o : Option Due). slice_get (files_with g.files i (stored_of o)) i) (sym q.1)),
        λ other. file_after i l [] now m (rw after at (rw before at (e.stays other))),
      ),
      λ to old new done is told told_new.
          let k = printed (command_of words) d to old new is (subst (λ (o : Option Due). IfSome o (λ d. IsWritten d (Some old) (Some new))) q.1 (rw told_new at (rw told at (rw given at (rw before at (e.report done)))))) in
          (k.0, k.1, λ es own. written_after i k.0 (Performs words input) l m (subst (λ (o : Option Due). IsIn k.0 (printed_of (command_of words) o)) (sym q.1) k.2) es l m (record { file = refl; desk = refl }) own),
    )

-- ---- sessions

-- what a session calls for that stores at its end alone, as the group says it
session_told : (r : Result Seen CommandError) (input : List ℕ) → IfOk r (λ s. IsFalse (session_at by_parts s empty_desk input).stores) → session.due_on (Some r) (Some input) ≡ Some (events.due_on r empty_desk input ∷ [])
session_told (Ok s) input h = ap (λ (cs : List (Course (Seat Seen))). Some (map session.due_of (map (closed by_parts) cs))) (courses_end (respond by_parts) (resumed_seat by_parts) (seated (sitting_at s)) input h)
session_told (Err e) input h = refl

session_kept : (g : Group) (i : ℕ) (now : Option (List ℕ)) (r : Result Seen CommandError) → i < length g.files → endings.IsKept r (Some (file_at g i)) (Some now) → now ≡ slice_get (files_with g.files i (saved_of r)) i
session_kept g i now (Ok s) l k = some_is now (Some (bytes_over s)) k.0 ∙ sym (set_there g i s l)
session_kept g i now (Err e) l k = absurd k

sessions_left : (l : Life) (i : ℕ) (input : List ℕ) (n : ℕ) (now : Option (List ℕ)) (old new : Option (List ℕ)) → i < length (l.group).files → StoresAtEnd l.group i input → let file = Some (file_at l.group i) in
    IfSome (session.due file (Some input)) (λ ds. Ends ds n file (Some now) old new) →
    (n ≡ 0 → IsFileAfter l i (Begins input ∷ []) now × Appends old new ((session_due l.group i empty_desk input).replies ++ saved_text)) × (n ≡ 9 → IsLeft l i [] (Begins input) now) × (n ≢ 0 → n ≢ 9 → IsFileAfter l i [] now)
sessions_left l i input n now old new m at_end told = (λ e. (stored (ends.stored e), ends.written e), λ e. failed (ends.failing e), λ zero nine. file_after i l [] now m (ends.stays zero nine))
  where
    d : session.Due
    d = session_due l.group i empty_desk input

    ends : EndsIn d n (Some (file_at l.group i)) (Some now) old new
    ends = subst (λ (o : Option (List session.Due)). IfSome o (λ ds. Ends ds n (Some (file_at l.group i)) (Some now) old new)) (session_told (replica_at l.group i) input at_end) told

    stored : endings.IsKept d.ending (Some (file_at l.group i)) (Some now) → IsFileAfter l i (Begins input ∷ []) now
    stored k = file_after i l (Begins input ∷ []) now m (session_kept l.group i now d.ending m k)

    failed : FailsAt d (Some (file_at l.group i)) (Some now) old new → IsLeft l i [] (Begins input) now
    failed (inl k) = inl (file_after i l [] now m (some_is now (file_at l.group i) k.0))
    failed (inr k) = inr (stored k.0)

pub sessions_leave : {K : Type 0} (S W : Type 0) (load : K → Bool → K → Type 0) (store : K → List ℕ → Bool → K → Type 0) → SessionsLeave S W load store
sessions_leave S W load store l i input n now keeper_old keeper_new input_old input_new output_old output_new old new m at_end h before given after =
    sessions_left l i input n now old.told new.told m at_end
    (subst (λ (f : Option (Option (List ℕ))). IfSome (session.due (Some (file_at l.group i)) (Some input)) (λ ds. Ends ds n (Some (file_at l.group i)) f old.told new.told)) after
    (subst (λ (x : Option (List ℕ)). IfSome (session.due (Some (file_at l.group i)) x) (λ ds. Ends ds n (Some (file_at l.group i)) new.file old.told new.told)) given
    (subst (λ (f : Option (Option (List ℕ))). IfSome (session.due f old.left) (λ ds. Ends ds n f new.file old.told new.told)) before h.ends)))

-- ---- stops

module _ {D : Type 0} (moment : D → ℕ) (left_since : D → ℕ → Areas → Type 0) (stores_so : List ℕ → Bool → D → D → Type 0) where
  -- the file from before, or bytes that a run is to store
  by_action : (l : Life) (i : ℕ) (action : Action) (stores : Bool) (IsDue : List ℕ → Type 0) (old new : D) → i < length (l.group).files → ((bytes : List ℕ) → IsDue bytes → Some bytes ≡ file_at (all_done i l (action ∷ [])).group i) → LeavesOldOrDue moment left_since stores IsDue (file_at l.group i) old new →
      LeavesOnly moment left_since old new (λ c. IsLeft l i [] action (kept c))
  by_action l i action stores IsDue old new m f (inl k) = leaves_weaker moment left_since old new (IsOld (file_at l.group i)) (λ c. IsLeft l i [] action (kept c)) (λ c p. inl (file_after i l [] (kept c) m p)) k
  by_action l i action stores IsDue old new m f (inr k) =
      leaves_weaker moment left_since old new (IsOldOrNew (file_at l.group i) (k.1).0) (λ c. IsLeft l i [] action (kept c))
      (λ c p. ⊎_elim (λ q. inl (file_after i l [] (kept c) m q)) (λ q. inr (file_after i l (action ∷ []) (kept c) m (q ∙ f (k.1).0 (k.1).1))) p) (k.1).2

  pub stops_leave : StopsLeave moment left_since stores_so
  stops_leave life i input old new l = (
    λ words stores k. by_action life i (Performs words input) stores (commands.IsDueOf (due words (Some (file_at g i)) (Some input))) old new l (λ bytes p. of_command words bytes p) k,
    λ at_end k. leaves_weaker moment left_since old new (IsOldOrOneOf (file_at g i) (tried k.files)) (λ c. IsLeft life i [] (Begins input) (kept c))
        (λ c p. ⊎_elim (λ q. inl (file_after i life [] (kept c) l q)) (λ q. inr (file_after i life (Begins input ∷ []) (kept c) l (q.2 ∙ of_session q.0 d.ending (one_file d (tried k.files) q.0 (subst (λ (o : Option (List session.Due)). AreDue o (tried k.files)) (session_told (replica_at g i) input at_end) k.due) q.1)))) p) k.leaves,
  )
    where
      g : Group
      g = life.group

      of_file : (bytes : List ℕ) (d : Due) → commands.IsDueFile d bytes → Some bytes ≡ slice_get (files_with g.files i (stored_of (Some d))) i
      of_file bytes NoCommand p = absurd p
      of_file bytes (Makes None report refused) p = absurd p
      of_file bytes (Makes (Some s) report refused) p = ap (λ (b : List ℕ). Some b) p ∙ sym (set_there g i s l)
      of_file bytes (Stops e) p = absurd p

      of_command : (words : List (List ℕ)) (bytes : List ℕ) → commands.IsDueOf (due words (Some (file_at g i)) (Some input)) bytes → Some bytes ≡ file_at (all_done i life (Performs words input ∷ [])).group i
      of_command words bytes p =
          let q = words_told (command_of words) (file_at g i) input in
          of_file bytes q.0 (subst (λ (o : Option Due). commands.IsDueOf o bytes) q.1 p) ∙ ap (λ (o : Option Due). slice_get (files_with g.files i (stored_of o)) i) (sym q.1)

      d : session.Due
      d = session_due g i empty_desk input

      -- a file of a session that stores once
      one_file : (d : session.Due) (files : List (List ℕ)) (bytes : List ℕ) → AreFilesOf (d ∷ []) files → IsIn bytes files → IsFileOf d.ending bytes
      one_file d [] bytes h p = absurd p
      one_file d (x ∷ []) bytes h (inl e) = subst (IsFileOf d.ending) e h.0
      one_file d (x ∷ []) bytes h (inr p) = absurd p
      one_file d (x ∷ (y ∷ files)) bytes h p = absurd h.1

      of_session : (bytes : List ℕ) (r : Result Seen CommandError) → IsFileOf r bytes → Some bytes ≡ slice_get (files_with g.files i (saved_of r)) i
      of_session bytes (Ok s) p = ap (λ (b : List ℕ). Some b) p.0 ∙ sym (set_there g i s l)
      of_session bytes (Err e) p = absurd p
