-- How a session ends, in one relation, from how its stages end.
use Rattle.std.proofs.Common.{◌≡◌, ◌≢◌, ◌∙◌, ℕ, Bool, true, false, List, length, Option, Some, None, IfSome, OnOk, Result, Ok, Err, sym, ap, subst}
use Rattle.rls_io.specs.Device.{Keeps, Rose}
use Rattle.rls_report.specs.declared.failures.CommandError.{CommandError}
use Rattle.rls_report.specs.declared.failures.Failure.{Failure}
use Rattle.rls_report.specs.declared.failures.Failure.TheVariants.{Fault}
use Rattle.rls_report.specs.declared.failures.Fault.TheVariants.{Keeper, Source, Sink}
use Rattle.rls_seen.specs.Seen.{Seen}
use Rattle.rls_stages.specs.declared.errors.OpenError.{OpenError}
use Rattle.rls_stages.specs.declared.errors.OpenError.TheVariants as opening
use Rattle.rls_stages.specs.Calls.{HasLoaded}
use Rattle.rls_stages.specs.Errors.{GivesError, IsOpenError, of_open}
use Rattle.rls_stages.specs.KeptFile.{IsUsable, Stays, loaded, replica_in}
use Rattle.rls_stages.proofs.Kept.{stays_so}
use Rattle.rls_session.specs.Answers.{sitting_at}
use Rattle.rls_session.specs.Calls.{AreAllFilesOf, AreDue, tried}
use Rattle.rls_session.specs.Devices.{Devices}
use Rattle.rls_session.specs.Due.{due, due_from, due_on, found_in}
use Rattle.rls_session.specs.Endings.{EndsNear, EndsPromptly, IsSessionsOwn, IsStatusOf, Leaves, OnFound, OnSession}
use Rattle.rls_session.specs.Sent.{SendsBefore, SendsMessages}
use Rattle.rls_session.specs.Serving.{SessionEnds, StageEnds, file_after}
use Rattle.rls_session.proofs.Called.{HasCalled, served_calls, unopened_calls}
use Rattle.rls_session.proofs.Stages.{after_none}
use Rattle.rls_session.proofs.Served.{done_so, ends_due, fault_of, no_keeper_fault, no_other, ok_more, open_failed, open_leaves, opened_as, opened_leaves, opened_own, opened_usable, unread_near, usable_only}

-- before no store
sends_none : (found : Option (Result Seen CommandError)) (left : Option (List ℕ)) → OnFound found left (λ s. SendsBefore 0 (sitting_at s))
sends_none None left = tt
sends_none (Some (Err e)) left = tt
sends_none (Some (Ok s)) None = tt
sends_none (Some (Ok s)) (Some given) = tt

module _ {K : Type 0} (load : K → Bool → K → Type 0) (store : K → List ℕ → Bool → K → Type 0) (untouched : Type 0) (n : ℕ) (keeper_old keeper_new : K) (old new : Devices) where
  abbrev pub EndsSo : Type 0
  EndsSo = SessionEnds load store untouched n keeper_old keeper_new old new

  -- what holds of an end holds at its status
  at_status : (r : Result (Unit {0}) Failure) → IsStatusOf r n → (called : HasCalled load store (due old.file old.left) untouched n keeper_old keeper_new)
      → Stays (file_after (called.stores).stored old.file) new.file → ((called.stores).failed ≡ None → Keeps (file_after (called.stores).stored old.file) new.file)
      → IfSome (due old.file old.left) (λ ds. Leaves r ds old.file new.file old.told new.told) → OnOk r (OnSession old.file old.left (λ s. SendsMessages (sitting_at s)))
      → OnSession old.file old.left (λ s. SendsBefore (length (called.stores).stored) (sitting_at s))
      → (r ≡ Err (Fault Keeper) → Rose old.keeper_faults new.keeper_faults) → (r ≢ Err (Fault Keeper) → new.keeper_faults ≡ old.keeper_faults)
      → (r ≡ Err (Fault Source) → IfSome old.file IsUsable × Rose old.input_faults new.input_faults) → (r ≡ Err (Fault Sink) → Rose old.output_faults new.output_faults) → IsSessionsOwn r
      → IfSome old.file (λ kept. (IsUsable kept → ⊥) → untouched) → EndsNear (found_in old.file) old.left new.left
      → (r ≡ Err (Fault Source) → EndsPromptly (found_in old.file) old.left new.left old.told new.told) → EndsSo
  at_status r s called stays kept leaves messages sent keeper uncounted input output own unread near prompt = record {
    stores = called.stores;
    calls = called.calls;
    files = called.files;
    some = called.some;
    all = called.all;
    ends = ends_due (due old.file old.left) r n old.file new.file old.told new.told s leaves;
    stays = stays;
    kept = kept;
    messages = λ z. done_so r n _ s messages z;
    sent = sent;
    keeper = λ e. keeper ((fault_of r n s).0 e);
    uncounted = λ other. uncounted (no_keeper_fault r n s other);
    input = λ e. input ((fault_of r n s).1 e);
    output = λ e. output ((fault_of r n s).2 e);
    no_other = no_other r n own s;
    unread = unread;
    near = near;
    prompt = λ e. prompt ((fault_of r n s).1 e);
  }

  -- the file can't be used
  pub unopened_ends : (e : OpenError) (f : Failure) → f ≡ of_open e → IsStatusOf (Err f) n → IfSome old.file (λ kept. GivesError (of_open e) (replica_in (loaded kept))) → Keeps old.file new.file → IsOpenError e
      → (e ≡ opening.KeeperFault → Rose old.keeper_faults new.keeper_faults) → (e ≢ opening.KeeperFault → new.keeper_faults ≡ old.keeper_faults) → HasLoaded {X = Seen} load (Err e) keeper_old keeper_new → untouched
      → new.left ≡ old.left → new.told ≡ old.told → EndsSo
  unopened_ends e f is s opened kept errors keeper uncounted calls u left told =
      let failed = open_failed e f is in
      let called = unopened_calls load store (due old.file old.left) untouched n keeper_old e f keeper_new is calls u s in
      at_status (Err f) s called.0
      (subst (λ (files : List (List ℕ)). Stays (file_after files old.file) new.file) (sym called.1) (stays_so old.file new.file kept)) (λ none. subst (λ (files : List (List ℕ)). Keeps (file_after files old.file) new.file) (sym called.1) kept)
      (subst (λ (t : Option (List ℕ)). IfSome (due old.file old.left) (λ ds. Leaves (Err f) ds old.file new.file old.told t)) (sym told)
      (subst (λ (g : Failure). IfSome (due old.file old.left) (λ ds. Leaves (Err g) ds old.file new.file old.told old.told)) (sym is) (open_leaves old.file old.left e new.file old.told opened kept)))
      tt
      (subst (λ (files : List (List ℕ)). OnSession old.file old.left (λ s. SendsBefore (length files) (sitting_at s))) (sym called.1) (sends_none (found_in old.file) old.left))
      (λ h. keeper (failed.0 h)) (λ other. uncounted (λ same. other (ap (λ (g : Failure). Err g) (is ∙ ap of_open same))))
      (λ h. absurd (failed.1 h)) (λ h. absurd (failed.2 h)) (subst (λ (g : Failure). IsSessionsOwn (Err g)) (sym is) (opened_own e errors))
      (unread old.file) (subst (λ (t : Option (List ℕ)). EndsNear (found_in old.file) old.left t) (sym left) (unread_near (found_in old.file) old.left)) (λ h. absurd (failed.1 h))
    where
      unread : (file : Option (Option (List ℕ))) → IfSome file (λ kept. (IsUsable kept → ⊥) → untouched)
      unread None = tt
      unread (Some kept) = λ none. u

  -- it was used: mid is what is seen of the devices then
  pub opened_ends : (r : Result (Unit {0}) Failure) (s : Seen) (keeper_mid : K) (mid : Devices) → IsStatusOf r n → IfSome old.file (λ kept. replica_in (loaded kept) ≡ Ok s) → load keeper_old true keeper_mid → Keeps old.file mid.file
      → mid.left ≡ old.left → mid.told ≡ old.told → mid.keeper_faults ≡ old.keeper_faults → mid.input_faults ≡ old.input_faults → mid.output_faults ≡ old.output_faults
      → StageEnds store (sitting_at s) old.left false r keeper_mid keeper_new mid new → EndsSo
  opened_ends r s keeper_mid mid is found load_gives kept left told keeper_faults input_faults output_faults h =
      let stage = subst (λ (d : Devices). StageEnds store (sitting_at s) old.left false r keeper_mid keeper_new d new) same h in
      at_status r is (called stage) (from_mid (λ o. Stays o new.file) (stage.calls).stores.stored tt stage.stays) (λ none. from_mid (λ o. Keeps o new.file) (stage.calls).stores.stored tt (stage.kept none))
      (opened_leaves r s old.file mid.file new.file old.left old.told new.told found kept stage.leaves)
      (ok_more r _ _ (λ m. opened_as old.file s (λ o. OnFound o old.left (λ s. SendsMessages (sitting_at s))) tt found m) stage.messages)
      (opened_as old.file s (λ o. OnFound o old.left (λ s. SendsBefore (length (stage.calls).stores.stored) (sitting_at s))) tt found stage.sent)
      stage.keeper stage.uncounted (λ e. (opened_usable old.file s found, (stage.input e).0)) stage.output stage.own
      (usable_only old.file untouched (opened_usable old.file s found))
      (opened_as old.file s (λ o. EndsNear o old.left new.left) tt found stage.near)
      (λ e. opened_as old.file s (λ o. EndsPromptly o old.left new.left old.told new.told) tt found (stage.prompt e))
    where
      -- but for the file they are seen as before
      same : mid ≡ record { file = mid.file; left = old.left; told = old.told; keeper_faults = old.keeper_faults; input_faults = old.input_faults; output_faults = old.output_faults }
      same = λ i. record { file = mid.file; left = left i; told = told i; keeper_faults = keeper_faults i; input_faults = input_faults i; output_faults = output_faults i }

      -- the file was kept up to there
      from_mid : (P : Option (Option (List ℕ)) → Type 0) (files : List (List ℕ)) → P None → P (file_after files mid.file) → P (file_after files old.file)
      from_mid P files none p = go old.file kept
        where
          go : (file : Option (Option (List ℕ))) → Keeps file mid.file → P (file_after files file)
          go None k = subst P (sym (after_none files)) none
          go (Some x) k = subst (λ (o : Option (Option (List ℕ))). P (file_after files o)) k p

      -- the calls
      called : StageEnds store (sitting_at s) old.left false r keeper_mid keeper_new (record { file = mid.file; left = old.left; told = old.told; keeper_faults = old.keeper_faults; input_faults = old.input_faults; output_faults = old.output_faults }) new
          → HasCalled load store (due old.file old.left) untouched n keeper_old keeper_new
      called stage = record {
        stores = (stage.calls).stores;
        calls = served_calls load store untouched r n (due_from (sitting_at s) old.left) keeper_old keeper_mid keeper_new load_gives stage.calls is;
        files = opened_as old.file s (λ o. AreDue (due_on o old.left) (tried (stage.calls).stores)) tt found (stage.calls).files;
        some = done_so r n _ is (stage.calls).some;
        all = λ z. opened_as old.file s (λ o. IfSome (due_on o old.left) (λ ds. AreAllFilesOf ds (stage.calls).stores.stored)) tt found (done_so r n _ is (stage.calls).all z);
      }
