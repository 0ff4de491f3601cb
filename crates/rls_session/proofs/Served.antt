-- How a session ends, from its parts.
use Rattle.std.proofs.Common.{◌≡◌, ◌≢◌, ◌∙◌, ◌⊎◌, ◌<◌, ◌≤◌, ℕ, true, false, eqb, ltb, List, [], ◌∷◌, ◌++◌, length, take, Option, Some, None, IfSome, IfErr, IsErr, OnOk, Result, Ok, Err, refl, sym, ap, subst, arith, inl, inr, append_assoc, length-append}
use Rattle.std.specs.Prelude.{map, option_map}
use Rattle.std.proofs.lemmas.Bool.Decides.{nat_tests}
use Rattle.std.proofs.lemmas.Grind.{common_steps}
use Rattle.std.proofs.lemmas.List.{append-nil, length-take-le}
use Rattle.rls_ident.specs.declared.limits.TheConstants.{INPUT_BYTES}
use Rattle.rls_io.specs.Device.{Appends, IsCutShort, Keeps, Rose, Stores}
use Rattle.rls_seen.specs.Seen.{Seen}
use Rattle.rls_report.specs.declared.failures.CommandError.{CommandError}
use Rattle.rls_report.specs.declared.failures.CommandError.TheVariants as errors
use Rattle.rls_report.specs.declared.failures.Fault.TheVariants.{Keeper, Source, Sink, Memory}
use Rattle.rls_report.specs.declared.failures.Failure.{Failure}
use Rattle.rls_report.specs.declared.failures.Failure.TheVariants.{NoCommand, Command, Fault}
use Rattle.rls_report.specs.Failures.{error_line}
use Rattle.rls_stages.specs.declared.errors.OpenError.{OpenError}
use Rattle.rls_stages.specs.declared.errors.OpenError.TheVariants as opening
use Rattle.rls_stages.specs.declared.errors.WorkError.{WorkError}
use Rattle.rls_stages.specs.declared.errors.WorkError.TheVariants as work
use Rattle.rls_stages.specs.Endings.{IsFault, IsPart, Writes}
use Rattle.rls_stages.specs.Errors.{GivesError, IsOpenError, of_open, of_work}
use Rattle.rls_stages.specs.KeptFile.{IsReadBack, IsUsable, Stays, bytes_over, loaded, replica_in, saved}
use Rattle.rls_stages.proofs.Kept.{keeps_on, stays_on, stays_so}
use Rattle.rls_stages.proofs.Statuses.{apart, failure_at_7, failure_at_8, failure_at_9, failure_line_told, not_error, not_failure}
use Rattle.rls_session.specs.declared.answering.AnswerError.{AnswerError}
use Rattle.rls_session.specs.declared.answering.AnswerError.TheVariants.{SourceFault, SinkFault, TooLarge, OutOfMemory}
use Rattle.rls_session.specs.Answering.{of_answer}
use Rattle.rls_session.specs.Answers.{Sitting, sitting_at}
use Rattle.rls_session.specs.Courses.{Course}
use Rattle.rls_session.specs.Due.{Due, due, due_of, due_on, dues_line, ending_status, found_in, line_at, line_or, stops}
use Rattle.rls_session.specs.Endings.{ByReplies, Ends, EndsIn, EndsNear, EndsOn, FailsAt, HasAllOf, IsKept, IsSessionsOwn, IsSessionStatus, IsStatusOf, Leaves, LeavesIn, LeavesOn, Saves, line_of}
use Rattle.rls_session.specs.Replies.{saved_text}
use Rattle.rls_session.specs.Sessions.{by_parts}
use Rattle.rls_session.proofs.Seats.{session_begins}

-- ---- lists and files

pub keeps_same : {A : Type 0} (a : Option A) → Keeps a a
keeps_same None = tt
keeps_same (Some x) = refl

-- nothing was written
pub part_none : (old : Option (List ℕ)) (bytes : List ℕ) → IsPart old old bytes
part_none None bytes = (0, omega arith, tt)
part_none (Some xs) bytes = (0, omega arith, ap (λ (l : List ℕ). Some l) (sym (append-nil xs)))

-- all was written
pub part_all : (old new : Option (List ℕ)) (bytes : List ℕ) → Appends old new bytes → IsPart old new bytes
part_all old new bytes h = (length bytes, omega arith, subst (Appends old new) (sym front) h)
  where
    front : take (length bytes) bytes ≡ bytes
    front = grind (arith, common_steps)

-- more was written
pub appends_more : (old mid new : Option (List ℕ)) (xs ys : List ℕ) → Appends old mid xs → Appends mid new ys → Appends old new (xs ++ ys)
appends_more None mid new xs ys h k = tt
appends_more (Some zs) mid new xs ys h k = subst (λ (m : Option (List ℕ)). Appends m new ys) h k ∙ ap (λ (l : List ℕ). Some l) (append_assoc zs xs ys)

-- ---- storing

-- there is no file to store
pub unsaved : (e : WorkError) (r : Result Seen CommandError) (file new_file : Option (Option (List ℕ))) (old : Option (List ℕ)) → GivesError (of_work e) r → Saves (Err (of_work e)) r file new_file old old
unsaved (work.Command e) r file new_file old h = (h, refl)
unsaved work.OutOfMemory r file new_file old h = (tt, refl)

-- it is stored
pub is_kept : (s : Seen) (r : Result Seen CommandError) (bytes : List ℕ) (file new_file : Option (Option (List ℕ))) → r ≡ Ok s → bytes ≡ bytes_over s → IsReadBack s → Stores file new_file bytes → IsKept r file new_file
is_kept s r bytes file new_file is same back stored = rw is (subst (Stores file new_file) same stored, back)

-- ---- what is left

pub ending_is : (c : Course (Sitting Seen)) → c.used ≤ INPUT_BYTES → (due_of c).ending ≡ saved (c.state).state
ending_is c h = let test : ltb INPUT_BYTES c.used ≡ false = grind (arith, nat_tests) in rw test refl

ending_long : (c : Course (Sitting Seen)) → INPUT_BYTES < c.used → (due_of c).ending ≡ Err errors.TooLarge
ending_long c h = let test : ltb INPUT_BYTES c.used ≡ true = grind (arith, nat_tests) in rw test refl

-- the session ended before the file was to be stored
pub answer_leaves : (e : AnswerError) (c : Course (Sitting Seen)) (file : Option (Option (List ℕ))) (old new : Option (List ℕ)) → (e ≡ TooLarge → INPUT_BYTES < c.used) → (e ≡ SinkFault → IsCutShort old new c.replies) → IsPart old new c.replies → LeavesIn (Err (of_answer e)) (due_of c) file file old new
answer_leaves SourceFault c file old new long cut part = (tt, part, stays_so file file (keeps_same file))
answer_leaves SinkFault c file old new long cut part = inl (keeps_same file, cut refl)
answer_leaves TooLarge c file old new long cut part = (ending_long c (long refl), part, stays_so file file (keeps_same file))
answer_leaves OutOfMemory c file old new long cut part = (tt, part, stays_so file file (keeps_same file))

-- the file was to be stored
pub save_leaves : (r : Result (Unit {0}) Failure) (c : Course (Sitting Seen)) (s : Seen) (file new_file : Option (Option (List ℕ))) (old mid new : Option (List ℕ)) → (c.state).state ≡ s → c.used ≤ INPUT_BYTES → Appends old mid c.replies
    → r ≢ Err (Fault Source) → Saves r (saved s) file new_file mid new → IfErr r (λ f. f ≢ Fault Sink → Keeps new_file file) → LeavesIn r (due_of c) file new_file old new
save_leaves r c s file new_file old mid new at within wrote inner saves keeps = go r inner saves keeps
  where
    ending : (due_of c).ending ≡ saved s
    ending = ending_is c within ∙ ap saved at

    kept : IsKept (saved s) file new_file → IsKept (due_of c).ending file new_file
    kept h = subst (λ (x : Result Seen CommandError). IsKept x file new_file) (sym ending) h

    same_end : (f : Failure) → GivesError f (saved s) → GivesError f (due_of c).ending
    same_end f h = subst (GivesError f) (sym ending) h

    part : new ≡ mid → IsPart old new c.replies
    part same = part_all old new c.replies (subst (λ (m : Option (List ℕ)). Appends old m c.replies) (sym same) wrote)

    stay : Keeps new_file file → Stays file new_file
    stay k = stays_on file file new_file (keeps_same file) k

    go : (r : Result (Unit {0}) Failure) → r ≢ Err (Fault Source) → Saves r (saved s) file new_file mid new → IfErr r (λ f. f ≢ Fault Sink → Keeps new_file file) → LeavesIn r (due_of c) file new_file old new
    go (Ok u) inner h k = (kept h.0, appends_more old mid new c.replies saved_text wrote h.1)
    go (Err (Fault Sink)) inner h k = inr (kept h.0, (h.1.0, h.1.1, appends_more old mid new c.replies (take h.1.0 saved_text) wrote h.1.2))
    go (Err NoCommand) inner h k = absurd h.0
    go (Err (Command e)) inner h k = (same_end (Command e) h.0, part h.1, stay (k (λ e. cc)))
    go (Err (Fault Keeper)) inner h k = (tt, part h.1, stay (k (λ e. cc)))
    go (Err (Fault Source)) inner h k = (tt, part h.1, stay (k (λ e. cc)))
    go (Err (Fault Memory)) inner h k = (tt, part h.1, stay (k (λ e. cc)))

-- ---- the kept file

-- what holds of what is called for in one way holds in another
for_due : (ds : Option (List Due)) (P Q : List Due → Type 0) → ((ds : List Due) → P ds → Q ds) → IfSome ds P → IfSome ds Q
for_due None P Q f h = tt
for_due (Some ds) P Q f h = f ds h

-- an end in the first of these
leaves_first : (f : Failure) (d : Due) (ds : List Due) (file new_file : Option (Option (List ℕ))) (old new : Option (List ℕ)) → LeavesIn (Err f) d file new_file old new → Leaves (Err f) (d ∷ ds) file new_file old new
leaves_first f d [] file new_file old new h = h
leaves_first f d (x ∷ ds) file new_file old new h = inl (refl, h)

-- what holds whatever is called for first
for_each : (found : Option (Result Seen CommandError)) (left : Option (List ℕ)) (P : List Due → Type 0) → ((d : Due) (ds : List Due) → P (d ∷ ds)) → IfSome (due_on found left) P
for_each None left P f = tt
for_each (Some (Ok s)) None P f = tt
for_each (Some (Ok s)) (Some given) P f = subst P (sym (ap (map due_of) (session_begins by_parts (sitting_at s) given))) (f _ _)
for_each (Some (Err e)) left P f = f (stops e) []

-- the file can't be used
pub open_leaves : (file : Option (Option (List ℕ))) (left : Option (List ℕ)) (e : OpenError) (new_file : Option (Option (List ℕ))) (old : Option (List ℕ)) → IfSome file (λ kept. GivesError (of_open e) (replica_in (loaded kept)))
    → Keeps file new_file → IfSome (due file left) (λ ds. Leaves (Err (of_open e)) ds file new_file old old)
open_leaves None left e new_file old h k = tt
open_leaves (Some kept) left (opening.Command e) new_file old h k = rw h (refl, part_none old [], stays_so (Some kept) new_file k)
open_leaves (Some kept) left opening.KeeperFault new_file old h k = for_each (Some (replica_in (loaded kept))) left _ (λ d ds. leaves_first (Fault Keeper) d ds (Some kept) new_file old old (tt, part_none old d.replies, stays_so (Some kept) new_file k))
open_leaves (Some kept) left opening.OutOfMemory new_file old h k = for_each (Some (replica_in (loaded kept))) left _ (λ d ds. leaves_first (Fault Memory) d ds (Some kept) new_file old old (tt, part_none old d.replies, stays_so (Some kept) new_file k))

-- it was used
kept_from : (r : Result Seen CommandError) (old_file file new_file : Option (Option (List ℕ))) → Keeps old_file file → IsKept r file new_file → IsKept r old_file new_file
kept_from (Ok s) old_file file new_file same k = (stored old_file same, k.1)
  where
    stored : (o : Option (Option (List ℕ))) → Keeps o file → Stores o new_file (bytes_over s)
    stored None e = tt
    stored (Some x) e = subst (λ (f : Option (Option (List ℕ))). Stores f new_file (bytes_over s)) e k.0
kept_from (Err e) old_file file new_file same k = absurd k

stays_from : (old_file file new_file : Option (Option (List ℕ))) → Keeps old_file file → Stays file new_file → Stays old_file new_file
stays_from None file new_file same k = tt
stays_from (Some x) file new_file same k = subst (λ (f : Option (Option (List ℕ))). Stays f new_file) same k

leaves_from : (r : Result (Unit {0}) Failure) (d : Due) (old_file file new_file : Option (Option (List ℕ))) (old new : Option (List ℕ)) → Keeps old_file file → LeavesIn r d file new_file old new → LeavesIn r d old_file new_file old new
leaves_from r d old_file file new_file old new same h = go r h
  where
    fails : FailsAt d file new_file old new → FailsAt d old_file new_file old new
    fails (inl k) = inl (keeps_on old_file file new_file same k.0, k.1)
    fails (inr k) = inr (kept_from d.ending old_file file new_file same k.0, k.1)

    stay : Stays file new_file → Stays old_file new_file
    stay k = stays_from old_file file new_file same k

    go : (r : Result (Unit {0}) Failure) → LeavesIn r d file new_file old new → LeavesIn r d old_file new_file old new
    go (Ok u) h = (kept_from d.ending old_file file new_file same h.0, h.1)
    go (Err (Fault Sink)) h = fails h
    go (Err NoCommand) h = absurd h.0
    go (Err (Command e)) h = (h.0, h.1, stay h.2)
    go (Err (Fault Keeper)) h = (h.0, h.1, stay h.2)
    go (Err (Fault Source)) h = (h.0, h.1, stay h.2)
    go (Err (Fault Memory)) h = (h.0, h.1, stay h.2)

all_from : (r : Result (Unit {0}) Failure) (ds : List Due) (old_file file new_file : Option (Option (List ℕ))) (old new : Option (List ℕ)) → Keeps old_file file → Leaves r ds file new_file old new → Leaves r ds old_file new_file old new
all_from r [] old_file file new_file old new same h = absurd h
all_from r (d ∷ []) old_file file new_file old new same h = leaves_from r d old_file file new_file old new same h
all_from r (d ∷ (e ∷ ds)) old_file file new_file old new same (inl h) = inl (h.0, leaves_from r d old_file file new_file old new same h.1)
all_from r (d ∷ (e ∷ ds)) old_file file new_file old new same (inr h) = inr (h.0, h.1, record { stored = kept_from d.ending old_file file h.0 same h.2.stored; written = h.2.written }, h.3)

-- what is said of the replica that was opened is so of the kept file
pub opened_as : (file : Option (Option (List ℕ))) (s : Seen) (P : Option (Result Seen CommandError) → Type 0) → P None → IfSome file (λ kept. replica_in (loaded kept) ≡ Ok s) → P (Some (Ok s)) → P (found_in file)
opened_as None s P none found h = none
opened_as (Some kept) s P none found h = subst (λ (r : Result Seen CommandError). P (Some r)) (sym found) h

pub opened_leaves : (r : Result (Unit {0}) Failure) (s : Seen) (old_file file new_file : Option (Option (List ℕ))) (left old new : Option (List ℕ)) → IfSome old_file (λ kept. replica_in (loaded kept) ≡ Ok s) → Keeps old_file file
    → IfSome (due_on (Some (Ok s)) left) (λ ds. Leaves r ds file new_file old new) → IfSome (due old_file left) (λ ds. Leaves r ds old_file new_file old new)
opened_leaves r s old_file file new_file left old new found same h =
    opened_as old_file s (λ o. IfSome (due_on o left) (λ ds. Leaves r ds old_file new_file old new)) tt found
    (for_due (due_on (Some (Ok s)) left) (λ ds. Leaves r ds file new_file old new) (λ ds. Leaves r ds old_file new_file old new) (λ ds k. all_from r ds old_file file new_file old new same k) h)

-- and so it can be
pub opened_usable : (file : Option (Option (List ℕ))) (s : Seen) → IfSome file (λ kept. replica_in (loaded kept) ≡ Ok s) → IfSome file IsUsable
opened_usable None s h = tt
opened_usable (Some kept) s h = rw h refl

pub usable_only : (file : Option (Option (List ℕ))) (X : Type 0) → IfSome file IsUsable → IfSome file (λ kept. (IsUsable kept → ⊥) → X)
usable_only None X h = tt
usable_only (Some kept) X h = λ none. absurd (none h)

pub unused : (file : Option (Option (List ℕ))) (X : Type 0) → X → IfSome file (λ kept. (IsUsable kept → ⊥) → X)
unused None X h = tt
unused (Some kept) X h = λ none. h

-- ---- at a status

-- an end, as a session tells it
abbrev ended : Failure → Result (Unit {0}) Failure
ended f = Err f

pub fault_of : (r : Result (Unit {0}) Failure) (n : ℕ) → IsStatusOf r n → (n ≡ 7 → r ≡ Err (Fault Keeper)) × (n ≡ 8 → r ≡ Err (Fault Source)) × (n ≡ 9 → r ≡ Err (Fault Sink))
fault_of (Ok u) n s = (λ h. apart n 0 7 s h refl, λ h. apart n 0 8 s h refl, λ h. apart n 0 9 s h refl)
fault_of (Err f) n s = (λ h. ap ended (failure_at_7 f n s h), λ h. ap ended (failure_at_8 f n s h), λ h. ap ended (failure_at_9 f n s h))

-- with another status the keeper hasn't failed
pub no_keeper_fault : (r : Result (Unit {0}) Failure) (n : ℕ) → IsStatusOf r n → n ≢ 7 → r ≢ Err (Fault Keeper)
no_keeper_fault r n s other is = other (subst (λ (x : Result (Unit {0}) Failure). IsStatusOf x n) is s)

-- a session ends by no other failure
pub opened_own : (e : OpenError) → IsOpenError e → IsSessionsOwn (Err (of_open e))
opened_own (opening.Command e) h = h
opened_own opening.KeeperFault h = tt
opened_own opening.OutOfMemory h = tt

pub answered_own : (e : AnswerError) → IsSessionsOwn (Err (of_answer e))
answered_own SourceFault = tt
answered_own SinkFault = tt
answered_own TooLarge = tt
answered_own OutOfMemory = tt

-- a session has no other status
pub no_other : (r : Result (Unit {0}) Failure) (n : ℕ) → IsSessionsOwn r → IsStatusOf r n → IsSessionStatus n
no_other (Ok u) n own s = inl s
no_other (Err NoCommand) n own s = absurd own
no_other (Err (Command errors.NoReplica)) n own (inl s) = inr (inl s)
no_other (Err (Command (errors.Damaged at))) n own (inl s) = inr (inr (inl s))
no_other (Err (Command errors.TooLarge)) n own (inl s) = inr (inr (inr (inl s)))
no_other (Err (Command errors.ReplicaExists)) n own (inl s) = absurd own
no_other (Err (Command (errors.BadMembers m))) n own (inl s) = absurd own
no_other (Err (Command (errors.BadMe m))) n own (inl s) = absurd own
no_other (Err (Command (errors.NotMember m))) n own (inl s) = absurd own
no_other (Err (Command (errors.BadLine m))) n own (inl s) = absurd own
no_other (Err (Command (errors.Malformed at))) n own (inl s) = absurd own
no_other (Err (Command (errors.OtherGroup g m))) n own (inl s) = absurd own
no_other (Err (Command (errors.Edit m f))) n own (inl s) = absurd own
no_other (Err (Command e)) n own (inr s) = inr (inr (inr (inr (inr (inr (inr s))))))
no_other (Err (Fault Keeper)) n own s = inr (inr (inr (inr (inl s))))
no_other (Err (Fault Source)) n own s = inr (inr (inr (inr (inr (inl s)))))
no_other (Err (Fault Sink)) n own s = inr (inr (inr (inr (inr (inr (inl s))))))
no_other (Err (Fault Memory)) n own s = inr (inr (inr (inr (inr (inr (inr s))))))

-- ---- what is called for

-- a replica is stored, so the status that is called for is 0
kept_status : (r : Result Seen CommandError) (file new_file : Option (Option (List ℕ))) → IsKept r file new_file → 0 ≡ ending_status r
kept_status (Ok s) file new_file h = refl
kept_status (Err e) file new_file h = absurd h

-- and no line
kept_line : (r : Result Seen CommandError) (file new_file : Option (Option (List ℕ))) (after : List ℕ) → IsKept r file new_file → line_or r after ≡ after
kept_line (Ok s) file new_file after h = refl
kept_line (Err e) file new_file after h = absurd h

-- the output has not all of what is cut short
cut_lacks : (output bytes : List ℕ) (new : Option (List ℕ)) → IsCutShort (Some output) new bytes → HasAllOf output new bytes → ⊥
cut_lacks output bytes new cut all =
    let same : output ++ take cut.0 bytes ≡ output ++ (bytes ++ all.0) = some_same (sym cut.2 ∙ all.1) in
    omega (arith, cut.1, ap length same, length-append output (take cut.0 bytes), length-append output (bytes ++ all.0), length-append bytes all.0, length-take-le cut.0 bytes (omega (arith, cut.1)))
  where
    some_same : {xs ys : List ℕ} → ◌≡◌ {A = Option (List ℕ)} (Some xs) (Some ys) → xs ≡ ys
    some_same e = cc

-- the output shows whether the file was stored
told_by_replies : (d : Due) (file new_file : Option (Option (List ℕ))) (old new : Option (List ℕ)) → FailsAt d file new_file old new → ByReplies d.replies old new (IsKept d.ending file new_file) (Keeps file new_file)
told_by_replies d file new_file None new h = tt
told_by_replies d file new_file (Some output) new (inl h) = (λ all. absurd (cut_lacks output d.replies new h.1 all), λ lacks. h.0)
told_by_replies d file new_file (Some output) new (inr h) = (λ all. h.0, λ lacks. absurd (lacks (take h.1.0 saved_text, h.1.2)))

ends_before : (d : Due) (n m : ℕ) (file new_file : Option (Option (List ℕ))) (old new : Option (List ℕ)) → n ≡ m → eqb m 0 ≡ false → eqb m 9 ≡ false → (n ≡ ending_status d.ending) ⊎ IsFault n → IsPart old new d.replies → Stays file new_file → EndsIn d n file new_file old new
ends_before d n m file new_file old new s none other status part stays = record {
  stays = λ a b. stays;
  by_replies = λ h. apart n m 9 s h other;
  status = status;
  written = λ h. apart n m 0 s h none;
  stored = λ h. apart n m 0 s h none;
  part = λ a b. part;
  failing = λ h. apart n m 9 s h other;
}

ends_so : (r : Result (Unit {0}) Failure) (n : ℕ) (d : Due) (file new_file : Option (Option (List ℕ))) (old new : Option (List ℕ)) → IsStatusOf r n → LeavesIn r d file new_file old new → EndsIn d n file new_file old new
ends_so (Ok u) n d file new_file old new s h = record {
  status = inl (s ∙ kept_status d.ending file new_file h.0);
  written = λ e. h.1;
  stored = λ e. h.0;
  part = λ a b. absurd (a s);
  stays = λ a b. absurd (a s);
  failing = λ e. apart n 0 9 s e refl;
  by_replies = λ e. apart n 0 9 s e refl;
}
ends_so (Err NoCommand) n d file new_file old new s h = absurd h.0
ends_so (Err (Command e)) n d file new_file old new (inl s) h = record {
  status = inl (s ∙ sym (ap ending_status h.0));
  written = λ k. not_error e n 0 s k refl;
  stored = λ k. not_error e n 0 s k refl;
  part = λ a b. h.1;
  stays = λ a b. h.2;
  failing = λ k. not_error e n 9 s k refl;
  by_replies = λ k. not_error e n 9 s k refl;
}
ends_so (Err (Command e)) n d file new_file old new (inr s) h = ends_before d n 10 file new_file old new s refl refl (inr (inr (inr (inr s)))) h.1 h.2
ends_so (Err (Fault Keeper)) n d file new_file old new s h = ends_before d n 7 file new_file old new s refl refl (inr (inl s)) h.1 h.2
ends_so (Err (Fault Source)) n d file new_file old new s h = ends_before d n 8 file new_file old new s refl refl (inr (inr (inl s))) h.1 h.2
ends_so (Err (Fault Memory)) n d file new_file old new s h = ends_before d n 10 file new_file old new s refl refl (inr (inr (inr (inr s)))) h.1 h.2
ends_so (Err (Fault Sink)) n d file new_file old new s h = record {
  status = inr (inr (inr (inl s)));
  written = λ e. apart n 9 0 s e refl;
  stored = λ e. apart n 9 0 s e refl;
  part = λ a b. absurd (b s);
  stays = λ a b. absurd (b s);
  failing = λ e. h;
  by_replies = λ e. told_by_replies d file new_file old new h;
}

-- an error isn't status 0
not_ok : (r : Result (Unit {0}) Failure) (n : ℕ) → IsErr r → IsStatusOf r n → n ≢ 0
not_ok (Ok u) n e s = let never : false ≡ true = e in cc
not_ok (Err f) n e s = λ z. not_failure f n 0 s z refl

ends_on : (r : Result (Unit {0}) Failure) (n : ℕ) (d : Due) (ds : List Due) (file new_file : Option (Option (List ℕ))) (old new : Option (List ℕ)) → IsStatusOf r n → LeavesOn r d ds file new_file old new → EndsOn d ds n file new_file old new
ends_on r n d [] file new_file old new s h = ends_so r n d file new_file old new s h
ends_on r n d (e ∷ ds) file new_file old new s (inl h) = inl (not_ok r n h.0 s, ends_so r n d file new_file old new s h.1)
ends_on r n d (e ∷ ds) file new_file old new s (inr h) = inr (h.0, h.1, h.2, ends_on r n e ds h.0 new_file h.1 new s h.3)

ends_all : (r : Result (Unit {0}) Failure) (n : ℕ) (ds : List Due) (file new_file : Option (Option (List ℕ))) (old new : Option (List ℕ)) → IsStatusOf r n → Leaves r ds file new_file old new → Ends ds n file new_file old new
ends_all r n [] file new_file old new s h = absurd h
ends_all r n (d ∷ ds) file new_file old new s h = ends_on r n d ds file new_file old new s h

pub ends_due : (ds : Option (List Due)) (r : Result (Unit {0}) Failure) (n : ℕ) (file new_file : Option (Option (List ℕ))) (old new : Option (List ℕ)) → IsStatusOf r n → IfSome ds (λ ds. Leaves r ds file new_file old new)
    → IfSome ds (λ ds. Ends ds n file new_file old new)
ends_due ds r n file new_file old new s h = for_due ds (λ ds. Leaves r ds file new_file old new) (λ ds. Ends ds n file new_file old new) (λ ds k. ends_all r n ds file new_file old new s k) h

-- ---- the line

-- nothing is told of a session that ends well
no_line : (u : Unit {0}) (d : Due) (ds : List Due) (file new_file : Option (Option (List ℕ))) (old new : Option (List ℕ)) → LeavesOn (Ok u) d ds file new_file old new → dues_line (d ∷ ds) ≡ []
no_line u d [] file new_file old new h = kept_line d.ending file new_file [] h.0
no_line u d (e ∷ ds) file new_file old new (inl h) = let never : false ≡ true = h.0 in cc
no_line u d (e ∷ ds) file new_file old new (inr h) = kept_line d.ending file h.0 (dues_line (e ∷ ds)) h.2.stored ∙ no_line u e ds h.0 new_file h.1 new h.3

no_lines : (u : Unit {0}) (ds : List Due) (file new_file : Option (Option (List ℕ))) (old new : Option (List ℕ)) → Leaves (Ok u) ds file new_file old new → dues_line ds ≡ []
no_lines u [] file new_file old new h = absurd h
no_lines u (d ∷ ds) file new_file old new h = no_line u d ds file new_file old new h

-- the line of what is called for is that of the error
told_line : (e : CommandError) (d : Due) (ds : List Due) (file new_file : Option (Option (List ℕ))) (old new : Option (List ℕ)) → LeavesOn (Err (Command e)) d ds file new_file old new → dues_line (d ∷ ds) ≡ error_line e
told_line e d [] file new_file old new h = ap (λ (r : Result Seen CommandError). line_or r []) h.0
told_line e d (x ∷ ds) file new_file old new (inl h) = ap (λ (r : Result Seen CommandError). line_or r (dues_line (x ∷ ds))) h.1.0
told_line e d (x ∷ ds) file new_file old new (inr h) = kept_line d.ending file h.0 (dues_line (x ∷ ds)) h.2.stored ∙ told_line e x ds h.0 new_file h.1 new h.3

told_lines : (ds : Option (List Due)) (f : Failure) (e : CommandError) (file new_file : Option (Option (List ℕ))) (old new : Option (List ℕ)) → IfSome ds (λ ds. Leaves (Err f) ds file new_file old new) → f ≡ Command e → IfSome (option_map dues_line ds) (λ l. l ≡ error_line e)
told_lines None f e file new_file old new h is = tt
told_lines (Some []) f e file new_file old new h is = absurd h
told_lines (Some (d ∷ ds)) f e file new_file old new h is = told_line e d ds file new_file old new (subst (λ (g : Failure). LeavesOn (Err g) d ds file new_file old new) is h)

pub line_so : (P : List ℕ → Type 0) (ds : Option (List Due)) (r : Result (Unit {0}) Failure) (n : ℕ) (file new_file : Option (Option (List ℕ))) (old new : Option (List ℕ)) → IsStatusOf r n → IfSome ds (λ ds. Leaves r ds file new_file old new)
    → P (line_of r n) → IfSome (line_at ds n) P
line_so P ds (Ok u) n file new_file old new s h line = subst (λ (k : ℕ). IfSome (line_at ds k) P) (sym s) (go ds h)
  where
    go : (ds : Option (List Due)) → IfSome ds (λ ds. Leaves (Ok u) ds file new_file old new) → IfSome (line_at ds 0) P
    go None h = tt
    go (Some ds) h = subst P (sym (no_lines u ds file new_file old new h)) line
line_so P ds (Err f) n file new_file old new s h line = failure_line_told P (option_map dues_line ds) f n s (λ e is. told_lines ds f e file new_file old new h is) line

-- the line at a status, as it is written
pub line_written : (line : Option (List ℕ)) (l : List ℕ) (P : List ℕ → Type 0) → IfSome line (λ k. k ≡ l) → P l → IfSome line P
line_written None l P e h = tt
line_written (Some k) l P e h = subst P (sym e) h

-- nothing is written
pub nothing_written : (old : Option (List ℕ)) → Appends old old []
nothing_written None = tt
nothing_written (Some xs) = ap (λ (l : List ℕ). Some l) (sym (append-nil xs))

-- ---- how far the input is read

-- it isn't read
pub unread_near : (found : Option (Result Seen CommandError)) (left : Option (List ℕ)) → EndsNear found left left
unread_near None left = tt
unread_near (Some (Ok s)) None = tt
unread_near (Some (Ok s)) (Some given) = omega arith
unread_near (Some (Err e)) left = tt

-- ---- errors of the stages

-- failures that end a session alike are the same, and what follows from that holds
other_end : {X : Type 0} {f g h : Failure} → f ≡ g → (g ≡ h → X) → ended f ≡ ended h → X
other_end {f = f} {h = h} is none e = let same : f ≡ h = cc in none (sym is ∙ same)

-- answering fails for the input or the output
pub answer_failed : (e : AnswerError) (f : Failure) → f ≡ of_answer e → (ended f ≢ ended (Fault Keeper)) × (ended f ≡ ended (Fault Source) → e ≡ SourceFault) × (ended f ≡ ended (Fault Sink) → e ≡ SinkFault)
answer_failed SourceFault f is = (other_end is (λ q. cc), λ h. refl, other_end is (λ q. cc))
answer_failed SinkFault f is = (other_end is (λ q. cc), other_end is (λ q. cc), λ h. refl)
answer_failed TooLarge f is = (other_end is (λ q. cc), other_end is (λ q. cc), other_end is (λ q. cc))
answer_failed OutOfMemory f is = (other_end is (λ q. cc), other_end is (λ q. cc), other_end is (λ q. cc))

-- an end of opening
abbrev pub opened_by : {X : Type 0} → OpenError → Result X OpenError
opened_by e = Err e

-- how opening fails
pub open_failed : (e : OpenError) (f : Failure) → f ≡ of_open e → (ended f ≡ ended (Fault Keeper) → e ≡ opening.KeeperFault) × (ended f ≢ ended (Fault Source)) × (ended f ≢ ended (Fault Sink))
open_failed (opening.Command e) f is = (other_end is (λ q. cc), other_end is (λ q. cc), other_end is (λ q. cc))
open_failed opening.KeeperFault f is = (λ h. refl, other_end is (λ q. cc), other_end is (λ q. cc))
open_failed opening.OutOfMemory f is = (other_end is (λ q. cc), other_end is (λ q. cc), other_end is (λ q. cc))

-- ---- what is told

-- nothing is told
pub told_none : (r : Result (Unit {0}) Failure) (u : Unit {0}) (fails : Type 0) (old : Option (List ℕ)) → r ≡ Ok u → Writes fails old old (line_of r 0)
told_none r u fails old is = rw is (inl (nothing_written old))

-- a count that rose later on
pub rose_later : (a b c : ℕ) → a ≤ b → b ≤ c → Rose b c → Rose a c
rose_later a b c h k rose = (omega (arith, h, k), λ same. let top = rose.1 (omega (arith, h, k, same)) in omega (arith, h, k, same, top))

-- ---- what is answered

-- whatever holds if all was done
pub if_ok : (r : Result (Unit {0}) Failure) (A B : Type 0) → (A → B) → A → OnOk r B
if_ok (Ok u) A B f a = f a
if_ok (Err e) A B f a = tt

pub ok_more : (r : Result (Unit {0}) Failure) (A B : Type 0) → (A → B) → OnOk r A → OnOk r B
ok_more (Ok u) A B f a = f a
ok_more (Err e) A B f a = tt

-- with status 0 all was
pub done_so : (r : Result (Unit {0}) Failure) (n : ℕ) (A : Type 0) → IsStatusOf r n → OnOk r A → n ≡ 0 → A
done_so (Ok u) n A s a z = a
done_so (Err f) n A s a z = not_failure f n 0 s z refl
