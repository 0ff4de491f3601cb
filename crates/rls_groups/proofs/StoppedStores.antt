-- What a stop leaves of a session of a member that stores more than once.
use Rattle.std.proofs.Common.{◌≡◌, ◌∙◌, ◌<◌, ℕ, zero, suc, Bool, true, false, List, [], ◌∷◌, ◌++◌, length, drop, map, Option, Some, None, Result, Ok, Err, refl, sym, ap, subst, inl, inr, ⊎_elim}
use Rattle.rls_ident.specs.declared.limits.TheConstants.{FILE_BYTES}
use Rattle.rls_codec.specs.CodecLaws.{IsBytes}
use Rattle.rls_model.specs.Receiving.{State}
use Rattle.rls_model.proofs.OnePlace.{got_below}
use Rattle.rls_seen.specs.Seen.{Seen}
use Rattle.rls_report.specs.declared.failures.CommandError.{CommandError}
use Rattle.rls_report.specs.declared.failures.CommandError.TheVariants.{TooLarge}
use Rattle.rls_stages.specs.KeptFile.{IsFileFor, StandsIn, bytes_over, loaded, replica_in}
use Rattle.rls_stages.proofs.Files.{opened}
use Rattle.rls_stages.proofs.Kept.{WithinOrPast, within_or_past}
use Rattle.rls_top.proofs.GroupCommands.{opened_at}
use Rattle.rls_session.specs.Answers.{Sitting, resumed, sitting_at}
use Rattle.rls_session.specs.Calls.{AreDue, AreFilesOf, and_failed}
use Rattle.rls_session.specs.Courses.{course, course_of, stretches, stretches_within}
use Rattle.rls_session.specs.Due.{Due, due, due_of, due_on, stops}
use Rattle.rls_session.specs.Seats.{closed, course_at, respond, resumed_seat, seated}
use Rattle.rls_session.specs.Sessions.{by_history, by_parts}
use Rattle.rls_journal.specs.Areas.{Areas, kept}
use Rattle.rls_journal.specs.Disk.{LeavesOnly}
use Rattle.rls_journal.specs.Keeper.{IsOldOrNew}
use Rattle.rls_groups.specs.Stops.{IsOld, LeavesInStore, LeavesInTurn, LeavesOldOrStores}
use Rattle.rls_journal.proofs.Moments.{leaves_both, leaves_weaker}
use Rattle.rls_groups.specs.Events.{Action, Begins, Resumes, unanswered}
use Rattle.rls_groups.specs.Lives.{Life}
use Rattle.rls_groups.specs.Runs.{IsFileAfter, IsLeft, LeavesActions, StoppedStores, actions_over, file_at}
use Rattle.rls_groups.proofs.Between.{all_done, all_done_more, file_after}
use Rattle.rls_groups.proofs.Standing.{Stands, acts, acts_all, as_far, file_stored, goes_on, mine, next, rest_here, stands_first, stands_then, stored_at, stored_here, theirs}

module _ (i : ℕ) where
  -- ---- a stop

  module _ {D : Type 0} (moment : D → ℕ) (left_since : D → ℕ → Areas → Type 0) (stores_so : List ℕ → Bool → D → D → Type 0) (first : Life) (there : i < length (first.group).files) where
    abbrev InTurn : Option (List ℕ) → List (List ℕ) → Option (List ℕ) → D → D → Type 0
    InTurn = LeavesInTurn moment left_since stores_so

    abbrev Leaves : List Action → List Action → D → D → Type 0
    Leaves before actions old new = LeavesActions moment left_since first i before actions old new

    -- the life that the first of these runs led to
    abbrev IsNow : List Action → Life → Type 0
    IsNow before l = all_done i first before ≡ l

    now_then : (before : List Action) (l : Life) (action : Action) → IsNow before l → IsNow (before ++ action ∷ []) (next i l action)
    now_then before l action e = all_done_more i first before action ∙ ap (λ (k : Life). next i k action) e

    is_file : (before : List Action) (l : Life) (now : Option (List ℕ)) → IsNow before l → now ≡ file_at l.group i → IsFileAfter first i before now
    is_file before l now e at = file_after i first before now there (at ∙ ap (λ (k : Life). file_at k.group i) (sym e))

    -- the store of a run, which is done or isn't
    in_run : (before : List Action) (l : Life) (action : Action) (bytes : List ℕ) (ok : Bool) (now : Option (List ℕ)) (old new : D) → IsNow before l → now ≡ file_at l.group i → Some bytes ≡ file_at (next i l action).group i → LeavesInStore moment left_since stores_so now bytes ok old new
        → LeavesOnly moment left_since old new (λ c. IsLeft first i before action (kept c))
    in_run before l action bytes ok now old new e at is h =
        leaves_both moment left_since old h.called new (λ c. IsLeft first i before action (kept c))
        (leaves_weaker moment left_since old h.called (IsOld now) (λ c. IsLeft first i before action (kept c)) (λ c p. inl (is_file before l (kept c) e (p ∙ at))) h.until)
        (leaves_weaker moment left_since h.called new (IsOldOrNew now bytes) (λ c. IsLeft first i before action (kept c))
        (λ c p. ⊎_elim (λ q. inl (is_file before l (kept c) e (q ∙ at))) (λ q. inr (is_file (before ++ action ∷ []) (next i l action) (kept c) (now_then before l action e) (q ∙ is))) p) h.within)

    -- no file is called for
    none_more : (before : List Action) (l : Life) (now : Option (List ℕ)) (files : List (List ℕ)) (failed : Option (List ℕ)) (old new : D) → IsNow before l → now ≡ file_at l.group i → AreFilesOf [] (files ++ and_failed failed) → InTurn now files failed old new → Leaves before [] old new
    none_more before l now [] None old new e at a h = leaves_weaker moment left_since old new (IsOld now) (λ c. IsFileAfter first i before (kept c)) (λ c p. is_file before l (kept c) e (p ∙ at)) h
    none_more before l now [] (Some bytes) old new e at a h = absurd a
    none_more before l now (bytes ∷ files) failed old new e at a h = absurd a

    -- it came no further than this stretch, or stored and went on
    at_stop : (before : List Action) (l : Life) (action : Action) (bytes : List ℕ) (d : Sitting Seen) (f : Sitting State) (input : List ℕ) (ds : List Due) (others : List Action) (files : List (List ℕ)) (failed : Option (List ℕ)) (old new : D) → IsNow before l → (h : Stands i l action bytes d f input)
        → AreFilesOf (due_of (course_at by_parts d input) ∷ ds) (files ++ and_failed failed) → InTurn (Some bytes) files failed old new
        → ((more : List (List ℕ)) (mid : D) → Stands i (next i l action) (Resumes (rest_here i l action bytes d f input h)) (stored_here i l action bytes d f input h) (resumed by_parts (course_at by_parts d input).state) (resumed by_history (course_at by_history f input).state) (rest_here i l action bytes d f input h)
        → AreFilesOf ds (more ++ and_failed failed) → InTurn (Some (stored_here i l action bytes d f input h)) more failed mid new → Leaves (before ++ action ∷ []) others mid new) → Leaves before (action ∷ others) old new
    at_stop before l action bytes d f input ds others [] None old new e h a left more = inl (leaves_weaker moment left_since old new (IsOld (Some bytes)) _ (λ c p. inl (is_file before l (kept c) e (p ∙ sym h.at))) left)
    at_stop before l action bytes d f input ds others [] (Some x) old new e h a left more =
        let k = file_stored i l action bytes d f input h x a.0 in
        inl (in_run before l action x false (Some bytes) old new e (sym h.at) (ap (λ (b : List ℕ). Some b) k.1 ∙ stored_at i l action bytes d f input h k.0) left)
    at_stop before l action bytes d f input ds others (x ∷ files) failed old new e h a left more =
        let k = file_stored i l action bytes d f input h x a.0 in
        let after = stored_at i l action bytes d f input h k.0 in
        inr (
          left.0,
          in_run before l action x true (Some bytes) old left.0 e (sym h.at) (ap (λ (b : List ℕ). Some b) k.1 ∙ after) left.1,
          more files left.0 (stands_then i l action bytes d f input h k.0 k.2 k.3) a.1 (subst (λ (b : List ℕ). InTurn (Some b) files failed left.0 new) k.1 left.2),
        )

    -- from stretch to stretch
    stops_within : (m : ℕ) (before : List Action) (l : Life) (action : Action) (bytes : List ℕ) (d : Sitting Seen) (f : Sitting State) (input : List ℕ) (files : List (List ℕ)) (failed : Option (List ℕ)) (old new : D) → IsNow before l → Stands i l action bytes d f input
        → AreFilesOf (map due_of (map (closed by_parts) (map (course_of (respond by_parts)) (stretches_within (respond by_parts) (resumed_seat by_parts) m (seated d) input)))) (files ++ and_failed failed) → InTurn (Some bytes) files failed old new
        → Leaves before (acts m action input) old new
    unfolding mine theirs
    stops_within zero before l action bytes d f input files failed old new e h a left = none_more before l (Some bytes) files failed old new e (sym h.at) a left
    stops_within (suc m) before l action bytes d f input files failed old new e h a left =
        let far = as_far d input in
        let c = course_at by_parts d input in
        subst (λ (k : ℕ). Leaves before (action ∷ theirs m input (course unanswered tt input).stores k) old new) far.used
        (subst (λ (x : Bool). Leaves before (action ∷ theirs m input x c.used) old new) far.stores
        (at_stop before l action bytes d f input (mine m d input c.stores) (theirs m input c.stores c.used) files failed old new e h a left
        (λ others mid there asked rest. on c.stores others mid there asked rest
        (λ asked. subst (λ (xs : List Action). Leaves (before ++ action ∷ []) xs mid new) (sym (goes_on m input c.used))
        (stops_within m (before ++ action ∷ []) (next i l action) (Resumes (drop (suc c.used) input)) (bytes_over (c.state).state) (resumed by_parts c.state) (resumed by_history (course_at by_history f input).state) (drop (suc c.used) input) others failed mid new (now_then before l action e) there asked rest)))))
      where
        on : (x : Bool) (others : List (List ℕ)) (mid : D) → Stands i (next i l action) (Resumes (rest_here i l action bytes d f input h)) (stored_here i l action bytes d f input h) (resumed by_parts (course_at by_parts d input).state) (resumed by_history (course_at by_history f input).state) (rest_here i l action bytes d f input h)
            → AreFilesOf (mine m d input x) (others ++ and_failed failed) → InTurn (Some (stored_here i l action bytes d f input h)) others failed mid new
            → (AreFilesOf (mine m d input true) (others ++ and_failed failed) → Leaves (before ++ action ∷ []) (theirs m input true (course_at by_parts d input).used) mid new)
            → Leaves (before ++ action ∷ []) (theirs m input x (course_at by_parts d input).used) mid new
        on false others mid there asked rest more = none_more (before ++ action ∷ []) (next i l action) (Some (stored_here i l action bytes d f input h)) others failed mid new (now_then before l action e) (sym there.at) asked rest
        on true others mid there asked rest more = more asked

-- over these bytes, which stand for a history
stopped : {D : Type 0} (moment : D → ℕ) (left_since : D → ℕ → Areas → Type 0) (stores_so : List ℕ → Bool → D → D → Type 0) (l : Life) (i : ℕ) (input : List ℕ) (t : State) (bytes : List ℕ) (old new : D) → file_at l.group i ≡ Some bytes → IsFileFor bytes t → IsBytes input
    → LeavesOldOrStores moment left_since stores_so (due (Some (file_at l.group i)) (Some input)) (file_at l.group i) old new → LeavesActions moment left_since l i [] (actions_over input) old new
unfolding stretches
stopped {D} moment left_since stores_so l i input t bytes old new at stands b k = go (within_or_past FILE_BYTES (length bytes))
  where
    m : i < length (l.group).files
    m = got_below (l.group).files i bytes at

    files : List (List ℕ)
    files = (k.files).stored

    failed : Option (List ℕ)
    failed = (k.files).failed

    due_so : AreDue (due (Some (Some bytes)) (Some input)) (files ++ and_failed failed)
    due_so = subst (λ (f : Option (List ℕ)). AreDue (due (Some f) (Some input)) (files ++ and_failed failed)) at k.due

    turns : LeavesInTurn moment left_since stores_so (Some bytes) files failed old new
    turns = subst (λ (f : Option (List ℕ)). LeavesInTurn moment left_since stores_so f files failed old new) at k.in_turn

    -- the file is too long
    unread : (tried : List (List ℕ)) (last : Option (List ℕ)) (action : Action) (others : List Action) → AreFilesOf (stops TooLarge ∷ []) (tried ++ and_failed last) → LeavesInTurn moment left_since stores_so (Some bytes) tried last old new → LeavesActions moment left_since l i [] (action ∷ others) old new
    unread [] None action others a h = inl (leaves_weaker moment left_since old new (IsOld (Some bytes)) _ (λ c p. inl (file_after i l [] (kept c) m (p ∙ sym at))) h)
    unread [] (Some x) action others a h = absurd a.0
    unread (x ∷ tried) last action others a h = absurd a.0

    go : WithinOrPast FILE_BYTES (length bytes) → LeavesActions moment left_since l i [] (actions_over input) old new
    go (inl few) =
        let o = opened bytes t stands in
        let found : replica_in (loaded (Some bytes)) ≡ Ok o.0 = opened_at bytes o.0 few.0 o.1.found in
        subst (λ (xs : List Action). LeavesActions moment left_since l i [] xs old new) (acts_all input) (stops_within i moment left_since stores_so l m (suc (length input)) [] l (Begins input) bytes (sitting_at o.0) (sitting_at t) input files failed old new refl (stands_first i l bytes t input o m at few.0 stands b)
        (subst (λ (r : Result Seen CommandError). AreDue (due_on (Some r) (Some input)) (files ++ and_failed failed)) found due_so) turns)
    go (inr long) =
        let large : replica_in (loaded (Some bytes)) ≡ Err TooLarge = rw (long.1) refl in
        subst (λ (xs : List Action). LeavesActions moment left_since l i [] xs old new) (acts_all input) (unread files failed (Begins input) _ (subst (λ (r : Result Seen CommandError). AreDue (due_on (Some r) (Some input)) (files ++ and_failed failed)) large due_so) turns)

-- a session over a member's file that stands for a history
pub stopped_stores : {D : Type 0} (moment : D → ℕ) (left_since : D → ℕ → Areas → Type 0) (stores_so : List ℕ → Bool → D → D → Type 0) → StoppedStores moment left_since stores_so
stopped_stores moment left_since stores_so l i input t old new file b k = go (file_at l.group i) refl file
  where
    go : (o : Option (List ℕ)) → file_at l.group i ≡ o → StandsIn (Some o) t → LeavesActions moment left_since l i [] (actions_over input) old new
    go (Some bytes) at stands = stopped moment left_since stores_so l i input t bytes old new at stands b k
    go None at stands = absurd stands
