-- How a session ends, from how its stretches do.
use Rattle.std.proofs.Common.{◌≡◌, ◌≢◌, ◌∙◌, ◌<◌, ◌≤◌, ◌+◌, ℕ, zero, suc, Bool, true, false, IsTrue, IsFalse, List, [], ◌∷◌, ◌++◌, length, take, drop, map, Option, Some, None, IfSome, IfErr, IsErr, OnOk, Result, Ok, Err, refl, sym, ap, subst, arith, inl, inr, append_assoc, length-append, length-drop}
use Rattle.std.specs.Prelude.{option_map}
use Rattle.rls_ident.specs.declared.limits.TheConstants.{INPUT_BYTES}
use Rattle.rls_io.specs.Device.{Appends, IsCutShort, Keeps, Rose}
use Rattle.rls_io.specs.Device as device
use Rattle.rls_report.specs.declared.failures.CommandError.{CommandError}
use Rattle.rls_report.specs.declared.failures.Fault.TheVariants.{Keeper, Source, Sink, Memory}
use Rattle.rls_report.specs.declared.failures.Failure.{Failure}
use Rattle.rls_report.specs.declared.failures.Failure.TheVariants.{NoCommand, Command, Fault}
use Rattle.rls_seen.specs.Seen.{Seen}
use Rattle.rls_stages.specs.Endings.{IsPart}
use Rattle.rls_stages.specs.KeptFile.{Stays, saved}
use Rattle.rls_stages.proofs.Kept.{stays_on, stays_so}
use Rattle.rls_session.specs.declared.answering.AnswerError.{AnswerError}
use Rattle.rls_session.specs.declared.answering.AnswerError.TheVariants.{SourceFault, SinkFault, TooLarge, OutOfMemory}
use Rattle.rls_session.specs.Answering.{IsDone, IsFront, IsNear, IsPaused, IsPrompt, of_answer}
use Rattle.rls_session.specs.Answers.{Sitting, resumed}
use Rattle.rls_session.specs.Calls.{AreAllFilesOf, AreDue, AreFilesOf, HasSaved, HasServed, IsFailedOf, IsFileOf, no_stores, tried}
use Rattle.rls_session.specs.Courses.{Course, Stretch, course, courses, holds, replies_in, used_in}
use Rattle.rls_session.specs.Devices.{Devices}
use Rattle.rls_session.specs.Due.{Due, due_from, due_of}
use Rattle.rls_session.specs.Endings.{IsDoneTo, IsKept, IsSessionsOwn, Leaves, LeavesIn, Saves}
use Rattle.rls_session.specs.Intake.{IntakeSeen, come_at, known_come}
use Rattle.rls_session.specs.Replies.{saved_text}
use Rattle.rls_session.specs.Seats.{Seat, at_work, closed, course_at, respond, resumed_seat, seated, session_by, stretches_by}
use Rattle.rls_session.specs.Sent.{SendMessages, SendsBefore, SendsFrom, SendsMessages}
use Rattle.rls_session.specs.Serving.{GoesOn, HasGoneOn, SaveEnds, StageEnds, file_after}
use Rattle.rls_session.specs.Sessions.{by_parts}
use Rattle.rls_session.proofs.Courses.{later_is, later_none, stretches_begin}
use Rattle.rls_session.proofs.Seats.{later_courses, none_later as no_courses, prompt_closed, session_begins, session_on, session_replies, session_used, session_used_first}
use Rattle.rls_session.proofs.Served.{answer_failed, answer_leaves, answered_own, appends_more, ending_is, keeps_same, part_all, part_none, rose_later, save_leaves}
use Rattle.rls_session.proofs.Called.{no_files}

-- the course from a sitting over an input
abbrev here : Sitting Seen → List ℕ → Course (Sitting Seen)
here d given = course_at by_parts d given

abbrev rest_of : Sitting Seen → List ℕ → List ℕ
rest_of d given = drop (suc (here d given).used) given

-- ---- what is called for

later_dues : Sitting Seen → List ℕ → List Due
later_dues d given = map due_of (later_courses by_parts d given)

dues_begin : (d : Sitting Seen) (given : List ℕ) → map due_of (session_by by_parts d given) ≡ due_of (here d given) ∷ later_dues d given
unfolding later_dues
dues_begin d given = ap (map due_of) (session_begins by_parts d given)

dues_end : (d : Sitting Seen) (given : List ℕ) → (here d given).stores ≡ false → later_dues d given ≡ []
unfolding later_dues
dues_end d given e = ap (map due_of) (no_courses by_parts d given e)

-- what holds of the first and of those after it holds of all
on_dues : (d : Sitting Seen) (come : Option (List ℕ)) (P : List Due → Type 0) → IfSome come (λ given. P (due_of (here d given) ∷ later_dues d given)) → IfSome (due_from d come) P
on_dues d None P h = tt
on_dues d (Some given) P h = subst P (sym (dues_begin d given)) h

-- an end in the first
leaves_err : (r : Result (Unit {0}) Failure) (d : Due) (ds : List Due) (file new_file : Option (Option (List ℕ))) (old new : Option (List ℕ)) → IsErr r → LeavesIn r d file new_file old new → Leaves r (d ∷ ds) file new_file old new
leaves_err r d [] file new_file old new e h = h
leaves_err r d (x ∷ ds) file new_file old new e h = inl (e, h)

-- an end in a later one
leaves_on : (r : Result (Unit {0}) Failure) (d : Due) (ds : List Due) (file mid_file new_file : Option (Option (List ℕ))) (old mid new : Option (List ℕ)) → IsDoneTo d file mid_file old mid → Leaves r ds mid_file new_file mid new → Leaves r (d ∷ ds) file new_file old new
leaves_on r d [] file mid_file new_file old mid new done h = absurd h
leaves_on r d (x ∷ ds) file mid_file new_file old mid new done h = inr (mid_file, mid, done, h)

-- nothing is told of a file that wasn't
pub after_none : (files : List (List ℕ)) → file_after files None ≡ None
after_none [] = refl
after_none (bytes ∷ files) = after_none files

-- a store, and then others
after_store : (files : List (List ℕ)) (bytes : List ℕ) (old mid : Option (Option (List ℕ))) (P : Option (Option (List ℕ)) → Type 0) → P None → device.Stores old mid bytes → P (file_after files mid) → P (file_after (bytes ∷ files) old)
after_store files bytes None mid P none h p = subst P (sym (after_none files)) none
after_store files bytes (Some kept) mid P none h p = subst (λ (o : Option (Option (List ℕ))). P (file_after files o)) h p

stores_bytes : (r : Result Seen CommandError) (bytes : List ℕ) (file new_file : Option (Option (List ℕ))) → IsFileOf r bytes → IsKept r file new_file → device.Stores file new_file bytes
stores_bytes (Ok s) bytes file new_file is k = subst (device.Stores file new_file) (sym is.0) k.0
stores_bytes (Err e) bytes file new_file is k = absurd is

-- the calls, and the file after them
record HasLeft {K : Type 0} (store : K → List ℕ → Bool → K → Type 0) (ds : Option (List Due)) (r : Result (Unit {0}) Failure) (keeper_old keeper_new : K) (file new_file : Option (Option (List ℕ))) : Type 0 where
  pub calls : HasServed store ds r keeper_old keeper_new
  pub stays : Stays (file_after calls.stores.stored file) new_file
  pub kept : calls.stores.failed ≡ None → Keeps (file_after calls.stores.stored file) new_file
  pub few : length calls.stores.stored ≤ 1

-- no store failed
unfailed : (f : Failure) → f ≢ Fault Keeper → IsFailedOf (Err f) None
unfailed NoCommand other = refl
unfailed (Command e) other = refl
unfailed (Fault Keeper) other = absurd (other refl)
unfailed (Fault Source) other = refl
unfailed (Fault Sink) other = refl
unfailed (Fault Memory) other = tt

-- one file was stored, which is the first that is called for
module _ {K : Type 0} (store : K → List ℕ → Bool → K → Type 0) (ds : Option (List Due)) (file new_file : Option (Option (List ℕ))) where
  none_left : (f : Failure) (k l : K) → f ≢ Fault Keeper → l ≡ k → new_file ≡ file → (left : HasLeft store ds (Err f) k l file new_file) × (left.calls.stores.stored ≡ [])
  none_left f k l other is same = (
    record {
      calls = record { stores = no_stores; at_failure = l; stored = is; failed = refl; failed_is = unfailed f other; files = no_files ds; some = tt; all = tt };
      stays = subst (Stays file) (sym same) (stays_so file file (keeps_same file));
      kept = λ none. subst (Keeps file) (sym same) (keeps_same file);
      few = omega arith;
    },
    refl,
  )

  one_left : (r : Result (Unit {0}) Failure) (bytes : List ℕ) (k l : K) → store k bytes true l → IsFailedOf r None → AreDue ds (bytes ∷ []) → OnOk r (IfSome ds (λ ds. AreAllFilesOf ds (bytes ∷ []))) → device.Stores file new_file bytes → HasLeft store ds r k l file new_file
  one_left r bytes k l call none due all stored = record {
    calls = record { stores = record { stored = bytes ∷ []; failed = None }; at_failure = l; stored = (l, call, refl); failed = refl; failed_is = none; files = due; some = on_ok r; all = all };
    stays = after_store [] bytes file new_file (λ o. Stays o new_file) tt stored (stays_so new_file new_file (keeps_same new_file));
    kept = λ e. after_store [] bytes file new_file (λ o. Keeps o new_file) tt stored (keeps_same new_file);
    few = omega arith;
  }
    where
      on_ok : (r : Result (Unit {0}) Failure) → OnOk r (0 < length (bytes ∷ []))
      on_ok (Ok u) = omega arith
      on_ok (Err f) = tt

  failed_left : (f : Failure) (bytes : List ℕ) (k l : K) → store k bytes false l → IsFailedOf (Err f) (Some bytes) → AreDue ds (bytes ∷ []) → Keeps new_file file → HasLeft store ds (Err f) k l file new_file
  failed_left f bytes k l call is due keeps = record {
    calls = record { stores = record { stored = []; failed = Some bytes }; at_failure = k; stored = refl; failed = call; failed_is = is; files = due; some = tt; all = tt };
    stays = stays_on file file new_file (keeps_same file) keeps;
    kept = λ none. absurd (some_not_none none);
    few = omega arith;
  }
    where
      some_not_none : (Some bytes ≡ None) → ⊥
      some_not_none e = cc

-- by the calls of a store
saved_left : {K : Type 0} (store : K → List ℕ → Bool → K → Type 0) (ds : Option (List Due)) (saves : Result Seen CommandError) (r : Result (Unit {0}) Failure) (k l : K) (file new_file : Option (Option (List ℕ))) (mid new : Option (List ℕ))
    → HasSaved store (IsFileOf saves) r k l → Saves r saves file new_file mid new → IfErr r (λ f. f ≢ Fault Sink → Keeps new_file file) → IfErr r (λ f. f ≢ Fault Sink → l ≡ k → new_file ≡ file) → ((bytes : List ℕ) → IsFileOf saves bytes → AreDue ds (bytes ∷ []))
    → ((bytes : List ℕ) → IsFileOf saves bytes → OnOk r (IfSome ds (λ ds. AreAllFilesOf ds (bytes ∷ [])))) → HasLeft store ds r k l file new_file
saved_left {K} store ds saves r k l file new_file mid new called saves_so keeps same due all = go r called saves_so keeps same all
  where
    go : (r : Result (Unit {0}) Failure) → HasSaved store (IsFileOf saves) r k l → Saves r saves file new_file mid new → IfErr r (λ f. f ≢ Fault Sink → Keeps new_file file) → IfErr r (λ f. f ≢ Fault Sink → l ≡ k → new_file ≡ file)
        → ((bytes : List ℕ) → IsFileOf saves bytes → OnOk r (IfSome ds (λ ds. AreAllFilesOf ds (bytes ∷ [])))) → HasLeft store ds r k l file new_file
    go (Ok u) c w s t a = one_left store ds file new_file (Ok u) c.0 k l c.2 refl (due c.0 c.1) (a c.0 c.1) (stores_bytes saves c.0 file new_file c.1 w.0)
    go (Err NoCommand) c w s t a = (none_left store ds file new_file NoCommand k l (λ e. cc) c (t (λ e. cc) c)).0
    go (Err (Command e)) c w s t a = (none_left store ds file new_file (Command e) k l (λ e. cc) c (t (λ e. cc) c)).0
    go (Err (Fault Keeper)) c w s t a = failed_left store ds file new_file (Fault Keeper) c.0 k l c.2 (c.0, refl) (due c.0 c.1) (s (λ e. cc))
    go (Err (Fault Source)) c w s t a = (none_left store ds file new_file (Fault Source) k l (λ e. cc) c (t (λ e. cc) c)).0
    go (Err (Fault Sink)) c w s t a = one_left store ds file new_file (Err (Fault Sink)) c.0 k l c.2 refl (due c.0 c.1) tt (stores_bytes saves c.0 file new_file c.1 w.0)
    go (Err (Fault Memory)) (inl c) w s t a = (none_left store ds file new_file (Fault Memory) k l (λ e. cc) c (t (λ e. cc) c)).0
    go (Err (Fault Memory)) (inr c) w s t a = failed_left store ds file new_file (Fault Memory) c.0 k l c.2 tt (due c.0 c.1) (s (λ e. cc))

-- how near, by the first course
near_first : (d : Sitting Seen) (come left : Option (List ℕ)) → IfSome come (λ given. IsNear given left (here d given).used) → IfSome come (λ given. IsNear given left (used_in (session_by by_parts d given)))
near_first d None left h = tt
near_first d (Some given) None h = tt
near_first d (Some given) (Some rest) h = let most = session_used_first by_parts d given in omega (arith, h, most)

-- the messages before as many stores as there were
sends_none : (d : Sitting Seen) (come : Option (List ℕ)) → IfSome come (SendsBefore 0 d)
sends_none d None = tt
sends_none d (Some given) = tt

sends_first : (d : Sitting Seen) (come : Option (List ℕ)) (k : ℕ) → k ≤ 1 → IfSome come (λ given. holds (respond by_parts) SendsFrom (seated d) given) → IfSome come (SendsBefore k d)
sends_first d None k few sent = tt
sends_first d (Some given) zero few sent = tt
sends_first d (Some given) (suc zero) few sent =
    subst (λ (l : List (Stretch (Seat Seen))). SendMessages (take 1 l)) (sym (stretches_begin (respond by_parts) (resumed_seat by_parts) (seated d) given)) (sent, tt)
sends_first d (Some given) (suc (suc k)) few sent = absurd (omega (arith, few))

-- answering failed
pub answer_ends : {K : Type 0} (store : K → List ℕ → Bool → K → Type 0) (d : Sitting Seen) (come : Option (List ℕ)) (ended : Bool) (e : AnswerError) (f : Failure) (k : K) (file : Option (Option (List ℕ))) (left new_left old new : Option (List ℕ)) (keeper_faults in_faults new_in_faults out_faults new_out_faults : ℕ)
    → f ≡ of_answer e → (e ≡ TooLarge → IfSome come (λ given. INPUT_BYTES < (here d given).used)) → (e ≡ SinkFault → IfSome come (λ given. IsCutShort old new (here d given).replies)) → IfSome come (λ given. IsPart old new (here d given).replies)
    → (e ≡ SourceFault → Rose in_faults new_in_faults × IsFalse ended) → (e ≡ SinkFault → Rose out_faults new_out_faults) → IfSome come (λ given. IsNear given new_left (here d given).used)
    → (e ≡ SourceFault → IfSome come (λ given. IsPrompt (λ front. replies_in (session_by by_parts d front)) given new_left old new))
    → StageEnds store d come ended (Err f) k k (record { file = file; left = left; told = old; keeper_faults = keeper_faults; input_faults = in_faults; output_faults = out_faults })
    (record { file = file; left = new_left; told = new; keeper_faults = keeper_faults; input_faults = new_in_faults; output_faults = new_out_faults })
answer_ends {K} store d come ended e f k file left new_left old new keeper_faults in_faults new_in_faults out_faults new_out_faults is long cut part input output near prompt =
    let failed = answer_failed e f is in
    record {
      leaves = on_dues d come (λ ds. Leaves (Err f) ds file file old new) (leave come long cut part);
      calls = (left_so.0).calls;
      stays = (left_so.0).stays;
      kept = (left_so.0).kept;
      keeper = λ h. absurd (failed.0 h);
      uncounted = λ h. refl;
      input = λ h. input (failed.1 h);
      output = λ h. output (failed.2 h);
      near = near_first d come new_left near;
      prompt = λ h. prompt (failed.1 h);
      messages = tt;
      sent = subst (λ (files : List (List ℕ)). IfSome come (SendsBefore (length files) d)) (sym left_so.1) (sends_none d come);
      own = subst (λ (g : Failure). IsSessionsOwn (Err g)) (sym is) (answered_own e);
    }
  where
    left_so : (left : HasLeft store (due_from d come) (Err f) k k file file) × (left.calls.stores.stored ≡ [])
    left_so = none_left store (due_from d come) file file f k k (λ q. (answer_failed e f is).0 (ap (λ (g : Failure). Err g) q)) refl refl

    leave : (come : Option (List ℕ)) → (e ≡ TooLarge → IfSome come (λ given. INPUT_BYTES < (here d given).used)) → (e ≡ SinkFault → IfSome come (λ given. IsCutShort old new (here d given).replies)) → IfSome come (λ given. IsPart old new (here d given).replies)
        → IfSome come (λ given. Leaves (Err f) (due_of (here d given) ∷ later_dues d given) file file old new)
    leave None long cut part = tt
    leave (Some given) long cut part =
        leaves_err (Err f) (due_of (here d given)) (later_dues d given) file file old new refl (subst (λ (g : Failure). LeavesIn (Err g) (due_of (here d given)) file file old new) (sym is) (answer_leaves e (here d given) file old new long cut part))

-- what was to be stored at its end was, or wasn't; if it was, the session ends there
pub save_ends : {K : Type 0} (store : K → List ℕ → Bool → K → Type 0) (d next : Sitting Seen) (come : Option (List ℕ)) (ended stores : Bool) (r : Result (Unit {0}) Failure) (s : Seen) (k l : K) (file new_file : Option (Option (List ℕ))) (left new_left old mid new : Option (List ℕ))
    (faults new_faults in_faults new_in_faults out_faults mid_out_faults new_out_faults : ℕ)
    → IfSome come (λ given. IsDone (here d given) stores next old mid) → s ≡ next.state → SaveEnds store s r k l file new_file faults new_faults mid new mid_out_faults new_out_faults → OnOk r (stores ≡ false)
    → out_faults ≤ mid_out_faults → IfSome come (λ given. IsNear given new_left (here d given).used) → IfSome come (λ given. holds (respond by_parts) SendsFrom (seated d) given)
    → StageEnds store d come ended r k l (record { file = file; left = left; told = old; keeper_faults = faults; input_faults = in_faults; output_faults = out_faults })
    (record { file = new_file; left = new_left; told = new; keeper_faults = new_faults; input_faults = new_in_faults; output_faults = new_out_faults })
save_ends {K} store d next come ended stores r s k l file new_file left new_left old mid new faults new_faults in_faults new_in_faults out_faults mid_out_faults new_out_faults done at save last later near sent = record {
  leaves = on_dues d come (λ ds. Leaves r ds file new_file old new) (leave come done);
  calls = left_so.calls;
  stays = left_so.stays;
  kept = left_so.kept;
  keeper = save.keeper;
  uncounted = save.uncounted;
  input = λ h. absurd (save.inner h);
  output = λ h. rose_later _ _ _ later (save.output h).0 (save.output h);
  near = near_first d come new_left near;
  prompt = λ h. absurd (save.inner h);
  messages = messages r come done last sent;
  sent = sends_first d come (length (left_so.calls).stores.stored) left_so.few sent;
  own = save.own;
}
  where
    ending : (given : List ℕ) → IsDone (here d given) stores next old mid → saved s ≡ (due_of (here d given)).ending
    ending given h = ap saved (at ∙ ap (λ (x : Sitting Seen). x.state) (sym h.state_is)) ∙ sym (ending_is (here d given) h.within)

    first_due : (come : Option (List ℕ)) → IfSome come (λ given. IsDone (here d given) stores next old mid) → (bytes : List ℕ) → IsFileOf (saved s) bytes → IfSome come (λ given. AreFilesOf (due_of (here d given) ∷ later_dues d given) (bytes ∷ []))
    first_due None h bytes is = tt
    first_due (Some given) h bytes is = (subst (λ (x : Result Seen CommandError). IsFileOf x bytes) (ending given h) is, tt)

    none_later : (given : List ℕ) → IsDone (here d given) stores next old mid → stores ≡ false → later_dues d given ≡ []
    none_later given h e = dues_end d given (h.stores_is ∙ e)

    all_due : (r : Result (Unit {0}) Failure) → OnOk r (stores ≡ false) → (bytes : List ℕ) → IsFileOf (saved s) bytes → OnOk r (IfSome (due_from d come) (λ ds. AreAllFilesOf ds (bytes ∷ [])))
    all_due (Err f) e bytes is = tt
    all_due (Ok u) e bytes is = on_dues d come (λ ds. AreAllFilesOf ds (bytes ∷ [])) (go come done)
      where
        go : (come : Option (List ℕ)) → IfSome come (λ given. IsDone (here d given) stores next old mid) → IfSome come (λ given. AreAllFilesOf (due_of (here d given) ∷ later_dues d given) (bytes ∷ []))
        go None h = tt
        go (Some given) h = subst (λ (ds : List Due). AreAllFilesOf (due_of (here d given) ∷ ds) (bytes ∷ [])) (sym (none_later given h e)) (subst (λ (x : Result Seen CommandError). IsFileOf x bytes) (ending given h) is, tt)

    left_so : HasLeft store (due_from d come) r k l file new_file
    left_so = saved_left store (due_from d come) (saved s) r k l file new_file mid new save.calls save.saves save.stays save.same (λ bytes is. on_dues d come (λ ds. AreFilesOf ds (bytes ∷ [])) (first_due come done bytes is)) (all_due r last)

    leave : (come : Option (List ℕ)) → IfSome come (λ given. IsDone (here d given) stores next old mid) → IfSome come (λ given. Leaves r (due_of (here d given) ∷ later_dues d given) file new_file old new)
    leave None h = tt
    leave (Some given) h =
        let one = save_leaves r (here d given) s file new_file old mid new (ap (λ (x : Sitting Seen). x.state) h.state_is ∙ sym at) h.within h.written save.inner save.saves save.stays in
        go r last one
      where
        go : (r : Result (Unit {0}) Failure) → OnOk r (stores ≡ false) → LeavesIn r (due_of (here d given)) file new_file old new → Leaves r (due_of (here d given) ∷ later_dues d given) file new_file old new
        go (Ok u) e one = subst (λ (ds : List Due). Leaves (Ok u) (due_of (here d given) ∷ ds) file new_file old new) (sym (none_later given h e)) one
        go (Err f) e one = leaves_err (Err f) (due_of (here d given)) (later_dues d given) file new_file old new refl one

    messages : (r : Result (Unit {0}) Failure) (come : Option (List ℕ)) → IfSome come (λ given. IsDone (here d given) stores next old mid) → OnOk r (stores ≡ false) → IfSome come (λ given. holds (respond by_parts) SendsFrom (seated d) given) → OnOk r (IfSome come (SendsMessages d))
    messages (Err f) come h e sent = tt
    messages (Ok u) None h e sent = tt
    messages (Ok u) (Some given) h e sent =
        subst SendMessages (sym (stretches_begin (respond by_parts) (resumed_seat by_parts) (seated d) given ∙ ap (λ (l : List (Stretch (Seat Seen))). record { state = seated d; input = given } ∷ l) (later_none (respond by_parts) (resumed_seat by_parts) (seated d) given (h.stores_is ∙ e)))) (sent, tt)

-- what was answered before the input was read on, as the session counts it
pub prompt_by : (d : Sitting Seen) (come left old new : Option (List ℕ)) → IfSome come (λ given. IsPrompt (λ front. replies_in (courses (respond by_parts) (resumed_seat by_parts) (seated d) front)) given left old new)
    → IfSome come (λ given. IsPrompt (λ front. replies_in (session_by by_parts d front)) given left old new)
prompt_by d None left old new p = tt
prompt_by d (Some given) left old new p = prompt_closed by_parts d given left old new p

-- all was answered, but the draft that was left couldn't be made
pub unmade_ends : {K : Type 0} (store : K → List ℕ → Bool → K → Type 0) (d : Sitting Seen) (b : Seat Seen) (come : Option (List ℕ)) (ended stores : Bool) (k : K) (file : Option (Option (List ℕ))) (left new_left old new : Option (List ℕ)) (keeper_faults in_faults new_in_faults out_faults new_out_faults : ℕ)
    → IfSome come (λ given. IsDone (course (respond by_parts) (seated d) given) stores b old new) → IfSome come (λ given. IsNear given new_left (here d given).used)
    → StageEnds store d come ended (Err (Fault Memory)) k k (record { file = file; left = left; told = old; keeper_faults = keeper_faults; input_faults = in_faults; output_faults = out_faults })
    (record { file = file; left = new_left; told = new; keeper_faults = keeper_faults; input_faults = new_in_faults; output_faults = new_out_faults })
unmade_ends store d b come ended stores k file left new_left old new keeper_faults in_faults new_in_faults out_faults new_out_faults done near =
    answer_ends store d come ended OutOfMemory (Fault Memory) k file left new_left old new keeper_faults in_faults new_in_faults out_faults new_out_faults refl (λ e. cc) (λ e. cc) (parts come done) (λ e. cc) (λ e. cc) near (λ e. cc)
  where
    parts : (come : Option (List ℕ)) → IfSome come (λ given. IsDone (course (respond by_parts) (seated d) given) stores b old new) → IfSome come (λ given. IsPart old new (here d given).replies)
    parts None h = tt
    parts (Some given) h = part_all old new (here d given).replies h.written

-- it could
pub done_made : (d next : Sitting Seen) (b : Seat Seen) (come : Option (List ℕ)) (stores : Bool) (old new : Option (List ℕ)) → next ≡ at_work by_parts b
    → IfSome come (λ given. IsDone (course (respond by_parts) (seated d) given) stores b old new) → IfSome come (λ given. IsDone (here d given) stores next old new)
done_made d next b None stores old new e h = tt
done_made d next b (Some given) stores old new e h = record { state_is = ap (at_work by_parts) h.state_is ∙ sym e; stores_is = h.stores_is; within = h.within; written = h.written }

-- nothing was done
pub memory_ends : {K : Type 0} (store : K → List ℕ → Bool → K → Type 0) (d : Sitting Seen) (come : Option (List ℕ)) (ended : Bool) (k : K) (file : Option (Option (List ℕ))) (left old : Option (List ℕ)) (keeper_faults in_faults out_faults : ℕ) → IfSome come (λ given. IsNear given left (here d given).used)
    → let seen : Devices = record { file = file; left = left; told = old; keeper_faults = keeper_faults; input_faults = in_faults; output_faults = out_faults } in StageEnds store d come ended (Err (Fault Memory)) k k seen seen
memory_ends store d come ended k file left old keeper_faults in_faults out_faults near =
    answer_ends store d come ended OutOfMemory (Fault Memory) k file left left old old keeper_faults in_faults in_faults out_faults out_faults refl (λ e. cc) (λ e. cc) (parts come) (λ e. cc) (λ e. cc) near (λ e. cc)
  where
    parts : (come : Option (List ℕ)) → IfSome come (λ given. IsPart old old (here d given).replies)
    parts None = tt
    parts (Some given) = part_none old (here d given).replies

-- ---- a store, and what comes after it

-- stored, and told
pub saved_on : {K : Type 0} (store : K → List ℕ → Bool → K → Type 0) (d next after : Sitting Seen) (come next_come : Option (List ℕ)) (ended next_ended : Bool) (s : Seen) (k l : K) (file new_file : Option (Option (List ℕ))) (left new_left old mid new : Option (List ℕ))
    (faults new_faults in_faults new_in_faults out_faults mid_out_faults new_out_faults : ℕ)
    → IfSome come (λ given. IsDone (here d given) true next old mid) → s ≡ next.state → SaveEnds store s (Ok tt) k l file new_file faults new_faults mid new mid_out_faults new_out_faults
    → after ≡ resumed by_parts next → out_faults ≤ mid_out_faults → in_faults ≤ new_in_faults → (IsTrue ended → IsTrue next_ended)
    → IfSome come (λ given. (next_come ≡ Some (rest_of d given)) × (IsFalse next_ended → IsFront (respond by_parts) (seated d) given)) → IfSome come (λ given. holds (respond by_parts) SendsFrom (seated d) given)
    → HasGoneOn store d come ended after next_come next_ended k l (record { file = file; left = left; told = old; keeper_faults = faults; input_faults = in_faults; output_faults = out_faults })
    (record { file = new_file; left = new_left; told = new; keeper_faults = new_faults; input_faults = new_in_faults; output_faults = new_out_faults })
saved_on {K} store d next after come next_come ended next_ended s k l file new_file left new_left old mid new faults new_faults in_faults new_in_faults out_faults mid_out_faults new_out_faults done at save resumes later in_later stays paused sent =
    let called = save.calls in
    record {
      bytes = called.0;
      call = called.2;
      file = stores_bytes (saved s) called.0 file new_file called.1 (save.saves).0;
      uncounted = save.uncounted (λ e. cc);
      input = in_later;
      output = omega (arith, later, save.never_falls);
      stays_ended = stays;
      on = go come done paused sent;
    }
  where
    go : (come : Option (List ℕ)) → IfSome come (λ given. IsDone (here d given) true next old mid) → IfSome come (λ given. (next_come ≡ Some (rest_of d given)) × (IsFalse next_ended → IsFront (respond by_parts) (seated d) given)) → IfSome come (λ given. holds (respond by_parts) SendsFrom (seated d) given)
        → IfSome come (λ given. GoesOn d given after next_come next_ended (save.calls).0 (record { file = file; left = left; told = old; keeper_faults = faults; input_faults = in_faults; output_faults = out_faults })
        (record { file = new_file; left = new_left; told = new; keeper_faults = new_faults; input_faults = new_in_faults; output_faults = new_out_faults }))
    go None h p t = tt
    go (Some given) h p t =
        let ending : saved s ≡ (due_of (here d given)).ending = ap saved (at ∙ ap (λ (x : Sitting Seen). x.state) (sym h.state_is)) ∙ sym (ending_is (here d given) h.within) in
        record {
          stores = h.stores_is;
          next_is = resumes ∙ ap (resumed by_parts) (sym h.state_is);
          come_is = p.0;
          file = subst (λ (x : Result Seen CommandError). IsFileOf x (save.calls).0) ending (save.calls).1;
          done = record {
            stored = subst (λ (x : Result Seen CommandError). IsKept x file new_file) ending (save.saves).0;
            written = appends_more old mid new (here d given).replies saved_text h.written (save.saves).1;
          };
          sent = t;
          fed = p.1;
        }

-- what was answered before the input was read on
drop_all : (xs ys : List ℕ) (n : ℕ) → length xs ≡ n → drop n (xs ++ ys) ≡ ys
drop_all xs ys n e = subst (λ (k : ℕ). drop k (xs ++ ys) ≡ ys) e (go xs)
  where
    go : (xs : List ℕ) → drop (length xs) (xs ++ ys) ≡ ys
    go [] = refl
    go (x ∷ xs) = go xs

prompt_on : (d next : Sitting Seen) (given : List ℕ) (next_come : Option (List ℕ)) (next_ended : Bool) (bytes : List ℕ) (old mid : Devices) (new_left new_told : Option (List ℕ)) → GoesOn d given next next_come next_ended bytes old mid → IsFront (respond by_parts) (seated d) given
    → IsPrompt (λ front. replies_in (session_by by_parts next front)) (rest_of d given) new_left mid.told new_told → IsPrompt (λ front. replies_in (session_by by_parts d front)) given new_left old.told new_told
prompt_on d next given next_come next_ended bytes old mid new_left new_told g f p = record {
  front = f.front ++ p.front;
  more = p.more;
  rest = p.rest;
  given_is = f.given_is ∙ ap (λ (l : List ℕ). f.front ++ l) p.given_is ∙ sym (append_assoc f.front p.front (p.more ++ p.rest));
  left_is = p.left_is;
  unfinished = p.unfinished;
  written = subst (Appends old.told new_told) (append_assoc (here d given).replies saved_text (replies_in (session_by by_parts next p.front)) ∙ sym all)
      (appends_more old.told mid.told new_told ((here d given).replies ++ saved_text) (replies_in (session_by by_parts next p.front)) (g.done).written p.written);
}
  where
    past : drop (suc (here d (f.front ++ p.front)).used) (f.front ++ p.front) ≡ p.front
    past = ap (λ (c : Course (Seat Seen)). drop (suc c.used) (f.front ++ p.front)) (f.same p.front) ∙ drop_all f.front p.front (suc (here d given).used) f.size

    all : replies_in (session_by by_parts d (f.front ++ p.front)) ≡ (here d given).replies ++ (saved_text ++ replies_in (session_by by_parts next p.front))
    all =
        session_replies by_parts d (f.front ++ p.front) (ap (λ (c : Course (Seat Seen)). c.stores) (f.same p.front) ∙ g.stores)
        ∙ ap (λ (l : List ℕ). (here d (f.front ++ p.front)).replies ++ (saved_text ++ replies_in (session_by by_parts (resumed by_parts (here d (f.front ++ p.front)).state) l))) past
        ∙ ap (λ (c : Course (Seat Seen)). c.replies ++ (saved_text ++ replies_in (session_by by_parts (resumed by_parts (closed by_parts c).state) p.front))) (f.same p.front)
        ∙ ap (λ (n : Sitting Seen). (here d given).replies ++ (saved_text ++ replies_in (session_by by_parts n p.front))) (sym g.next_is)

-- what follows the order to store is to come
pub paused_on : (d : Sitting Seen) (come : Option (List ℕ)) (a b : IntakeSeen) (left : Option (List ℕ)) → IfSome come (λ given. IsPaused (respond by_parts) (seated d) given a left) → b.waiting ≡ a.waiting → b.ended ≡ a.ended
    → IfSome come (λ given. (known_come b left ≡ Some (rest_of d given)) × (IsFalse b.ended → IsFront (respond by_parts) (seated d) given))
paused_on d None a b left h waiting ended = tt
paused_on d (Some given) a b left h waiting ended = (ap (λ x. come_at x b.waiting left) ended ∙ ap (λ (l : List ℕ). come_at a.ended l left) waiting ∙ h.rest, λ going. h.fed (sym ended ∙ going))

-- from one sitting to another, each end from there on is an end
abbrev pub Reaches : {K : Type 0} → (K → List ℕ → Bool → K → Type 0) → Sitting Seen → Option (List ℕ) → K → Devices → Sitting Seen → Option (List ℕ) → Bool → K → Devices → Type 0
Reaches {K} store first given k old d come ended m mid = (r : Result (Unit {0}) Failure) (l : K) (new : Devices) → StageEnds store d come ended r m l mid new → StageEnds store first given false r k l old new

-- at the beginning
pub reaches_first : {K : Type 0} (store : K → List ℕ → Bool → K → Type 0) (d : Sitting Seen) (a : IntakeSeen) (left : Option (List ℕ)) (k : K) (old : Devices) → a ≡ record { waiting = []; used = 0; ended = false } → Reaches store d left k old d (known_come a left) a.ended k old
reaches_first store d a left k old e r l new h =
    subst (λ (come : Option (List ℕ)). StageEnds store d come false r k l old new) (same left) (subst (λ (x : IntakeSeen). StageEnds store d (known_come x left) x.ended r k l old new) e h)
  where
    same : (left : Option (List ℕ)) → option_map (λ rest. [] ++ rest) left ≡ left
    same None = refl
    same (Some rest) = refl

-- how near what waits is
pub near_now : (d : Sitting Seen) (a : IntakeSeen) (left : Option (List ℕ)) → length a.waiting ≤ 4096 → IfSome (known_come a left) (λ given. IsNear given left (here d given).used)
near_now d a left few = go a.ended left
  where
    go : (b : Bool) (left : Option (List ℕ)) → IfSome (come_at b a.waiting left) (λ given. IsNear given left (here d given).used)
    go false None = tt
    go false (Some rest) = omega (arith, few, length-append a.waiting rest)
    go true None = tt
    go true (Some []) = omega (arith, few)
    go true (Some (x ∷ rest)) = tt

-- and then an end
pub goes_on : {K : Type 0} (store : K → List ℕ → Bool → K → Type 0) (d next : Sitting Seen) (come next_come : Option (List ℕ)) (ended next_ended : Bool) (r : Result (Unit {0}) Failure) (k m l : K) (old mid new : Devices)
    → HasGoneOn store d come ended next next_come next_ended k m old mid → StageEnds store next next_come next_ended r m l mid new → StageEnds store d come ended r k l old new
goes_on {K} store d next come next_come ended next_ended r k m l old mid new on h = record {
  leaves = leave come on.on;
  calls = record {
    stores = record { stored = on.bytes ∷ (h.calls).stores.stored; failed = (h.calls).stores.failed };
    at_failure = (h.calls).at_failure;
    stored = (m, on.call, (h.calls).stored);
    failed = (h.calls).failed;
    failed_is = (h.calls).failed_is;
    files = files come on.on;
    some = some r;
    all = all r come on.on (h.calls).all;
  };
  stays = after_store (h.calls).stores.stored on.bytes old.file mid.file (λ o. Stays o new.file) tt on.file h.stays;
  kept = λ none. after_store (h.calls).stores.stored on.bytes old.file mid.file (λ o. Keeps o new.file) tt on.file (h.kept none);
  keeper = λ e. subst (λ (n : ℕ). Rose n new.keeper_faults) on.uncounted (h.keeper e);
  uncounted = λ e. h.uncounted e ∙ on.uncounted;
  input = λ e. (rose_later _ _ _ on.input ((h.input e).0).0 (h.input e).0, is_open (h.input e).1);
  output = λ e. rose_later _ _ _ on.output (h.output e).0 (h.output e);
  near = near come on.on;
  prompt = λ e. prompt come on.on (h.input e).1 (h.prompt e);
  messages = messages r come on.on h.messages;
  sent = sends come on.on;
  own = h.own;
}
  where
    is_open : IsFalse next_ended → IsFalse ended
    is_open going = go ended refl
      where
        go : (b : Bool) → ended ≡ b → ended ≡ false
        go true is = let both : true ≡ false = sym (on.stays_ended is) ∙ going in cc
        go false is = is

    -- what is called for, in the first and later
    dues : (given : List ℕ) → GoesOn d given next next_come next_ended on.bytes old mid → map due_of (session_by by_parts d given) ≡ due_of (here d given) ∷ map due_of (session_by by_parts next (rest_of d given))
    dues given g =
        ap (map due_of) (session_on by_parts d given g.stores)
        ∙ ap (λ (n : Sitting Seen). due_of (here d given) ∷ map due_of (session_by by_parts n (rest_of d given))) (sym g.next_is)

    -- what is known of the later ones
    later_on : (P : List Due → Type 0) (given : List ℕ) → GoesOn d given next next_come next_ended on.bytes old mid → IfSome (due_from next next_come) P → P (map due_of (session_by by_parts next (rest_of d given)))
    later_on P given g p = subst (λ (o : Option (List ℕ)). IfSome (due_from next o) P) g.come_is p

    leave : (come : Option (List ℕ)) → IfSome come (λ given. GoesOn d given next next_come next_ended on.bytes old mid) → IfSome (due_from d come) (λ ds. Leaves r ds old.file new.file old.told new.told)
    leave None g = tt
    leave (Some given) g = subst (λ (ds : List Due). Leaves r ds old.file new.file old.told new.told) (sym (dues given g))
        (leaves_on r (due_of (here d given)) (map due_of (session_by by_parts next (rest_of d given))) old.file mid.file new.file old.told mid.told new.told g.done (later_on (λ ds. Leaves r ds mid.file new.file mid.told new.told) given g h.leaves))

    files : (come : Option (List ℕ)) → IfSome come (λ given. GoesOn d given next next_come next_ended on.bytes old mid) → AreDue (due_from d come) (on.bytes ∷ tried (h.calls).stores)
    files None g = tt
    files (Some given) g = subst (λ (ds : List Due). AreFilesOf ds (on.bytes ∷ tried (h.calls).stores)) (sym (dues given g)) (g.file, later_on (λ ds. AreFilesOf ds (tried (h.calls).stores)) given g (h.calls).files)

    some : (r : Result (Unit {0}) Failure) → OnOk r (0 < length (on.bytes ∷ (h.calls).stores.stored))
    some (Ok u) = omega arith
    some (Err f) = tt

    all : (r : Result (Unit {0}) Failure) (come : Option (List ℕ)) → IfSome come (λ given. GoesOn d given next next_come next_ended on.bytes old mid) → OnOk r (IfSome (due_from next next_come) (λ ds. AreAllFilesOf ds (h.calls).stores.stored))
        → OnOk r (IfSome (due_from d come) (λ ds. AreAllFilesOf ds (on.bytes ∷ (h.calls).stores.stored)))
    all (Err f) come g a = tt
    all (Ok u) None g a = tt
    all (Ok u) (Some given) g a = subst (λ (ds : List Due). AreAllFilesOf ds (on.bytes ∷ (h.calls).stores.stored)) (sym (dues given g)) (g.file, later_on (λ ds. AreAllFilesOf ds (h.calls).stores.stored) given g a)

    near : (come : Option (List ℕ)) → IfSome come (λ given. GoesOn d given next next_come next_ended on.bytes old mid) → IfSome come (λ given. IsNear given new.left (used_in (session_by by_parts d given)))
    near None g = tt
    near (Some given) g = at new.left (subst (λ (o : Option (List ℕ)). IfSome o (λ rest. IsNear rest new.left (used_in (session_by by_parts next rest)))) g.come_is h.near)
      where
        used : used_in (session_by by_parts d given) ≡ suc (here d given).used + used_in (session_by by_parts next (rest_of d given))
        used = session_used by_parts d given g.stores ∙ ap (λ (n : Sitting Seen). suc (here d given).used + used_in (session_by by_parts n (rest_of d given))) (sym g.next_is)

        at : (left : Option (List ℕ)) → IsNear (rest_of d given) left (used_in (session_by by_parts next (rest_of d given))) → IsNear given left (used_in (session_by by_parts d given))
        at None n = tt
        at (Some rest) n = let len = length-drop (suc (here d given).used) given in omega (arith, n, len, used)

    -- the first stretch, and those after it
    stretches_on : (given : List ℕ) → GoesOn d given next next_come next_ended on.bytes old mid
        → stretches_by by_parts d given ≡ record { state = seated d; input = given } ∷ stretches_by by_parts (resumed by_parts (here d given).state) (rest_of d given)
    stretches_on given g = stretches_begin (respond by_parts) (resumed_seat by_parts) (seated d) given ∙ ap (λ (l : List (Stretch (Seat Seen))). record { state = seated d; input = given } ∷ l) (later_is (respond by_parts) (resumed_seat by_parts) (seated d) given g.stores)

    -- what is known of the next sitting's messages
    sent_next : (P : Sitting Seen → List ℕ → Type 0) (given : List ℕ) → GoesOn d given next next_come next_ended on.bytes old mid → IfSome next_come (P next) → P (resumed by_parts (here d given).state) (rest_of d given)
    sent_next P given g p = subst (λ (n : Sitting Seen). P n (rest_of d given)) g.next_is (subst (λ (o : Option (List ℕ)). IfSome o (P next)) g.come_is p)

    messages : (r : Result (Unit {0}) Failure) (come : Option (List ℕ)) → IfSome come (λ given. GoesOn d given next next_come next_ended on.bytes old mid) → OnOk r (IfSome next_come (SendsMessages next)) → OnOk r (IfSome come (SendsMessages d))
    messages (Err f) come g a = tt
    messages (Ok u) None g a = tt
    messages (Ok u) (Some given) g a = subst SendMessages (sym (stretches_on given g)) (g.sent, sent_next SendsMessages given g a)

    sends : (come : Option (List ℕ)) → IfSome come (λ given. GoesOn d given next next_come next_ended on.bytes old mid) → IfSome come (SendsBefore (suc (length (h.calls).stores.stored)) d)
    sends None g = tt
    sends (Some given) g = subst (λ (l : List (Stretch (Seat Seen))). SendMessages (take (suc (length (h.calls).stores.stored)) l)) (sym (stretches_on given g)) (g.sent, sent_next (SendsBefore (length (h.calls).stores.stored)) given g h.sent)

    prompt : (come : Option (List ℕ)) → IfSome come (λ given. GoesOn d given next next_come next_ended on.bytes old mid) → IsFalse next_ended
        → IfSome next_come (λ given. IsPrompt (λ front. replies_in (session_by by_parts next front)) given new.left mid.told new.told) → IfSome come (λ given. IsPrompt (λ front. replies_in (session_by by_parts d front)) given new.left old.told new.told)
    prompt None g going p = tt
    prompt (Some given) g going p = prompt_on d next given next_come next_ended on.bytes old mid new.left new.told g (g.fed going) (subst (λ (o : Option (List ℕ)). IfSome o (λ rest. IsPrompt (λ front. replies_in (session_by by_parts next front)) rest new.left mid.told new.told)) g.come_is p)
