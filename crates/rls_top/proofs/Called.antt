-- Which calls of the keeper a command made, from what its stages called.
use Rattle.std.proofs.Common.{◌≡◌, ◌≢◌, ℕ, Bool, true, false, eqb, List, Option, Some, None, IfSome, IsSome, IsTrue, IsFalse, Result, Ok, Err, refl, sym, subst, inl, inr}
use Rattle.std.specs.Prelude.{Vec}
use Rattle.std.specs.declared.alloc.Global.{Global}
use Rattle.rls_io.specs.Memory.{bytes_of}
use Rattle.rls_report.specs.declared.failures.Fault.TheVariants.{Keeper, Source, Sink, Memory}
use Rattle.rls_report.specs.declared.failures.Failure.{Failure}
use Rattle.rls_report.specs.declared.failures.Failure.TheVariants.{Command, Fault}
use Rattle.rls_stages.specs.declared.errors.OpenError.TheVariants as opening
use Rattle.rls_stages.specs.declared.errors.WorkError.TheVariants as work
use Rattle.rls_top.specs.declared.made.Made.{Made}
use Rattle.rls_top.specs.declared.stages.DeviceError.{DeviceError}
use Rattle.rls_top.specs.declared.stages.DeviceError.TheVariants as device
use Rattle.rls_top.specs.declared.stages.InputError.TheVariants as input
use Rattle.rls_top.specs.declared.stages.MakeError.{MakeError}
use Rattle.rls_top.specs.declared.stages.MakeError.TheVariants as make
use Rattle.rls_top.specs.declared.words.Command as words
use Rattle.rls_stages.specs.Calls.{CallsNothing, FailsToLoad, FailsToStore, Loads, Stores}
use Rattle.rls_top.specs.Calls.{Calls, HasFinished, HasMade, IsDueFile, UnlessOpened}
use Rattle.rls_top.specs.Due.{Due, Makes, Stops, calls_keeper, may_store}
use Rattle.rls_top.specs.Due as due
use Rattle.rls_top.specs.Endings.{IsStored}
use Rattle.rls_top.specs.Stages.{IsAsDue, IsStatusOf, of_make}
use Rattle.rls_stages.proofs.Statuses.{not_failure, not_keeper}
use Rattle.rls_top.proofs.Faults.{failure_of, same_failure}
use Rattle.rls_top.proofs.Finishing.{ended, for_due}
use Rattle.rls_top.proofs.Statuses.{made_apart, made_stored, sink_fault, stored_done}

-- ---- which status is whose

-- nor one after storing
not_stored : {X : Type 0} (f : Failure) (n : ℕ) → IsStatusOf (Err f) n → f ≢ Fault Sink → IsStored n → X
not_stored f n s other (inl e) = not_failure f n 0 s e refl
not_stored f n s other (inr (inl e)) = not_failure f n 5 s e refl
not_stored f n s other (inr (inr e)) = absurd (other (same_failure f (Fault Sink) (sink_fault (Err f) n s e)))

-- ---- nothing was made

pub unmade_calls : {K : Type 0} (load : K → Bool → K → Type 0) (store : K → List ℕ → Bool → K → Type 0) (c : Option words.Command) (d : Option Due) (unread : Type 0) (e : MakeError) (old new : K)
    → (IsFalse (calls_keeper c) → new ≡ old) → (IsTrue (calls_keeper c) → HasMade load (Err e) old new) → UnlessOpened e unread → (n : ℕ) → IsStatusOf (Err (of_make e)) n → Calls load store c d unread n old new
unmade_calls {K} load store c d unread e old new none made untouched n s = go (calls_keeper c) none made (λ h. h)
  where
    loads : (f : Failure) → load old true new → IsStatusOf (Err f) n → f ≢ Fault Keeper → f ≢ Fault Sink → Calls load store c d unread n old new
    loads f l s keeper sink = Loads l (not_keeper f n s keeper) (λ h. not_stored f n s sink h)

    by_error : (e : MakeError) → HasMade load (Err e) old new → UnlessOpened e unread → IsStatusOf (Err (of_make e)) n → Calls load store c d unread n old new
    by_error (make.Open (opening.Command x)) h u s = loads (Command x) h s (λ e. cc) (λ e. cc)
    by_error (make.Open opening.KeeperFault) h u s = FailsToLoad h (inl s) u
    by_error (make.Open opening.OutOfMemory) (inl same) u s = CallsNothing same (inr s) (λ h. not_stored (Fault Memory) n s (λ e. cc) h)
    by_error (make.Open opening.OutOfMemory) (inr (inl h)) u s = loads (Fault Memory) h s (λ e. cc) (λ e. cc)
    by_error (make.Open opening.OutOfMemory) (inr (inr h)) u s = FailsToLoad h (inr s) u
    by_error (make.Input (input.Work (work.Command x))) h u s = loads (Command x) h s (λ e. cc) (λ e. cc)
    by_error (make.Input (input.Work work.OutOfMemory)) h u s = loads (Fault Memory) h s (λ e. cc) (λ e. cc)
    by_error (make.Input input.SourceFault) h u s = loads (Fault Source) h s (λ e. cc) (λ e. cc)

    go : (b : Bool) → (IsFalse b → new ≡ old) → (IsTrue b → HasMade load (Err e) old new) → (IsFalse b → IsFalse (calls_keeper c)) → Calls load store c d unread n old new
    go true none made same = by_error e (made refl) untouched s
    go false none made same = CallsNothing (none refl) (inl (same refl)) (λ h. not_stored (of_make e) n s (failure_of e).sink h)

-- ---- it was made

due_file : (made : Made) (b : List ℕ) (d : Due) → bytes_of made.stored ≡ Some b → IsAsDue made d → IsDueFile d b
due_file made b due.NoCommand e m = absurd m
due_file made b (Stops x) e m = absurd m
due_file made b (Makes None report refused) e m = let is = m.stored_is in cc
due_file made b (Makes (Some s) report refused) e m = let is = m.stored_is in cc

-- what is there
nothing : {A : Type 0} (o : Option A) → o ≡ None → IsSome o → ⊥
nothing None e p = let never : false ≡ true = p in cc
nothing (Some x) e p = cc

abbrev finished_by : DeviceError → Result (Unit {0}) DeviceError
finished_by e = Err e

-- nothing was stored
shown_status : (made : Made) (r : Result (Unit {0}) DeviceError) (n : ℕ) → IsStatusOf (ended made r) n → r ≢ finished_by device.KeeperFault → n ≢ 7
shown_status made (Ok done) n s other e = made_apart (eqb made.refused 0) n 7 s e refl refl
shown_status made (Err device.KeeperFault) n s other e = other refl
shown_status made (Err device.SinkFault) n s other e = not_keeper (Fault Sink) n s (λ h. cc) e
shown_status made (Err device.OutOfMemory) n s other e = not_keeper (Fault Memory) n s (λ h. cc) e

-- these bytes were stored, or weren't
stored_calls : {K : Type 0} (load : K → Bool → K → Type 0) (store : K → List ℕ → Bool → K → Type 0) (c : Option words.Command) (d : Option Due) (unread : Type 0) (made : Made) (b : List ℕ) (r : Result (Unit {0}) DeviceError) (old mid new : K)
    → load old true mid → IsTrue (may_store c) → HasFinished store b r mid new → IfSome d (λ d. IsDueFile d b) → (n : ℕ) → IsStatusOf (ended made r) n → Calls load store c d unread n old new
stored_calls load store c d unread made b (Ok done) old mid new l may h f n s = Stores (record { between = mid; loaded = l; bytes = b; due = f; stored = h }) may (stored_done n (made_stored (eqb made.refused 0) n s))
stored_calls load store c d unread made b (Err device.SinkFault) old mid new l may h f n s = Stores (record { between = mid; loaded = l; bytes = b; due = f; stored = h }) may (inr (inr s))
stored_calls load store c d unread made b (Err device.KeeperFault) old mid new l may h f n s = FailsToStore (record { between = mid; loaded = l; bytes = b; due = f; stored = h }) may (inl s)
stored_calls load store c d unread made b (Err device.OutOfMemory) old mid new l may h f n s = FailsToStore (record { between = mid; loaded = l; bytes = b; due = f; stored = h }) may (inr s)

pub made_calls : {K : Type 0} (load : K → Bool → K → Type 0) (store : K → List ℕ → Bool → K → Type 0) (c : Option words.Command) (d : Option Due) (unread : Type 0) (made : Made) (r : Result (Unit {0}) DeviceError) (old mid new : K)
    → (IsFalse (calls_keeper c) → (new ≡ old) × (made.stored ≡ None)) → (IsTrue (calls_keeper c) → load old true mid) → (IsFalse (may_store c) → (new ≡ mid) × (r ≢ finished_by device.KeeperFault)) → (IsTrue (may_store c) → IsSome made.stored)
    → IfSome (bytes_of made.stored) (λ b. HasFinished store b r mid new) → IfSome d (IsAsDue made) → (n : ℕ) → IsStatusOf (ended made r) n → Calls load store c d unread n old new
made_calls {K} load store c d unread made r old mid new none loaded kept some h m n s = go (calls_keeper c) none loaded (λ e. e)
  where
    storing : load old true mid → IsTrue (may_store c) → (o : Option (Vec ℕ Global)) → bytes_of made.stored ≡ bytes_of o → IsSome o → IfSome (bytes_of o) (λ b. HasFinished store b r mid new) → Calls load store c d unread n old new
    storing l may None e p q = absurd (nothing {A = Vec ℕ Global} None refl p)
    storing l may (Some v) e p q = stored_calls load store c d unread made v.items r old mid new l may q (for_due d (IsAsDue made) (λ d. IsDueFile d v.items) (λ d m. due_file made v.items d e m) m) n s

    may : load old true mid → (b : Bool) → (IsFalse b → (new ≡ mid) × (r ≢ finished_by device.KeeperFault)) → (IsTrue b → IsSome made.stored) → (b ≡ may_store c) → Calls load store c d unread n old new
    may l true kept some is = storing l (sym is) made.stored refl (some refl) h
    may l false kept some is = let k = kept refl in Loads (subst (λ (x : K). load old true x) (sym k.0) l) (shown_status made r n s k.1) (λ z. sym is)

    -- what has nothing to store isn't a command that stores
    showing : made.stored ≡ None → (b : Bool) → (IsTrue b → IsSome made.stored) → IsFalse b
    showing none true some = absurd (nothing made.stored none (some refl))
    showing none false some = refl

    go : (b : Bool) → (IsFalse b → (new ≡ old) × (made.stored ≡ None)) → (IsTrue b → load old true mid) → (IsFalse b → IsFalse (calls_keeper c)) → Calls load store c d unread n old new
    go true none loaded same = may (loaded refl) (may_store c) kept some refl
    go false none loaded same = CallsNothing (none refl).0 (inl (same refl)) (λ h. showing (none refl).1 (may_store c) some)
