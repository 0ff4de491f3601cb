-- Which calls of the keeper a session made, from what its stages called.
use Rattle.std.proofs.Common.{◌≡◌, ◌≢◌, ◌<◌, ℕ, Bool, true, List, [], length, Option, Some, None, IfSome, Result, Ok, Err, refl, sym, subst, inl, inr}
use Rattle.rls_report.specs.declared.failures.CommandError.{CommandError}
use Rattle.rls_report.specs.declared.failures.Fault.TheVariants.{Keeper, Source, Sink, Memory}
use Rattle.rls_report.specs.declared.failures.Failure.{Failure}
use Rattle.rls_report.specs.declared.failures.Failure.TheVariants.{NoCommand, Command, Fault}
use Rattle.rls_seen.specs.Seen.{Seen}
use Rattle.rls_stages.specs.declared.errors.OpenError.{OpenError}
use Rattle.rls_stages.specs.declared.errors.OpenError.TheVariants as opening
use Rattle.rls_stages.specs.Calls.{HasLoaded}
use Rattle.rls_stages.specs.Errors.{of_open}
use Rattle.rls_stages.specs.KeptFile.{IsReadBack, bytes_over}
use Rattle.rls_stages.proofs.Statuses.{apart, not_failure, not_keeper}
use Rattle.rls_session.specs.Calls.{AreAllFilesOf, AreDue, Calls, CallsNothing, FailsToLoad, HasServed, IsFailedOf, IsFileOf, IsStatusAfter, Loads, Stores, no_stores, tried}
use Rattle.rls_session.specs.Due.{Due}
use Rattle.rls_session.specs.Endings.{IsStatusOf}

-- ---- one call or none

-- the bytes of the replica's file are those of the replica that is saved
pub file_is : (r : Result Seen CommandError) (s : Seen) (bytes : List ℕ) → r ≡ Ok s → bytes ≡ bytes_over s → IsReadBack s → IsFileOf r bytes
file_is r s bytes is same back = rw is (same, back)

-- ---- a session

-- nor is it an end at which all is done
not_done : {X : Type 0} (f : Failure) (n : ℕ) → IsStatusOf (Err f) n → n ≡ 0 → X
not_done f n s e = not_failure f n 0 s e refl

pub no_files : (ds : Option (List Due)) → AreDue ds []
no_files None = tt
no_files (Some ds) = tt

-- the stores that a session made, and its calls of the keeper
pub record HasCalled {K : Type 0} (load : K → Bool → K → Type 0) (store : K → List ℕ → Bool → K → Type 0) (ds : Option (List Due)) (untouched : Type 0) (n : ℕ) (old new : K) : Type 0 where
  pub stores : Stores
  pub calls : Calls load store stores untouched n old new
  pub files : AreDue ds (tried stores)
  pub some : n ≡ 0 → 0 < length stores.stored
  pub all : n ≡ 0 → IfSome ds (λ ds. AreAllFilesOf ds stores.stored)

module _ {K : Type 0} (load : K → Bool → K → Type 0) (store : K → List ℕ → Bool → K → Type 0) (ds : Option (List Due)) (untouched : Type 0) (n : ℕ) (old : K) where
  abbrev Has : K → Type 0
  Has new = (called : HasCalled load store ds untouched n old new) × ((called.stores).stored ≡ [])

  -- a load alone
  loads : (f : Failure) (new : K) → load old true new → IsStatusOf (Err f) n → f ≢ Fault Keeper → Has new
  loads f new l s keeper = (
    record {
      stores = no_stores;
      calls = Loads (record { at_load = new; loaded = l; at_failure = new; stored = refl; failed = refl }) (not_keeper f n s keeper);
      files = no_files ds;
      some = λ z. not_done f n s z;
      all = λ z. not_done f n s z;
    },
    refl,
  )

  -- nothing, or a load that fails
  fails : (f : Failure) (new : K) → IsStatusOf (Err f) n → Calls load store no_stores untouched n old new → Has new
  fails f new s calls = (record { stores = no_stores; calls = calls; files = no_files ds; some = λ z. not_done f n s z; all = λ z. not_done f n s z }, refl)

  -- the file can't be used
  pub unopened_calls : (e : OpenError) (f : Failure) (new : K) → f ≡ of_open e → HasLoaded {X = Seen} load (Err e) old new → untouched → IsStatusOf (Err f) n → Has new
  unopened_calls e f new is h u s = go e h (subst (λ (g : Failure). IsStatusOf (Err g) n) is s)
    where
      go : (e : OpenError) → HasLoaded {X = Seen} load (Err e) old new → IsStatusOf (Err (of_open e)) n → Has new
      go (opening.Command x) h s = loads (Command x) new h s (λ e. cc)
      go opening.KeeperFault h s = fails (Fault Keeper) new s (FailsToLoad h (inl s) u refl)
      go opening.OutOfMemory (inl same) s = fails (Fault Memory) new s (CallsNothing same s refl)
      go opening.OutOfMemory (inr (inl h)) s = loads (Fault Memory) new h s (λ e. cc)
      go opening.OutOfMemory (inr (inr h)) s = fails (Fault Memory) new s (FailsToLoad h (inr s) u refl)

-- what the calls of a stage say of the status
status_after : (r : Result (Unit {0}) Failure) (failed : Option (List ℕ)) (n : ℕ) → IsFailedOf r failed → IsStatusOf r n → IsStatusAfter failed n
status_after (Ok u) failed n is s = subst (λ (o : Option (List ℕ)). IsStatusAfter o n) (sym is) (λ e. apart n 0 7 s e refl)
status_after (Err NoCommand) failed n is s = subst (λ (o : Option (List ℕ)). IsStatusAfter o n) (sym is) (not_keeper NoCommand n s (λ e. cc))
status_after (Err (Command x)) failed n is s = subst (λ (o : Option (List ℕ)). IsStatusAfter o n) (sym is) (not_keeper (Command x) n s (λ e. cc))
status_after (Err (Fault Keeper)) failed n is s = subst (λ (o : Option (List ℕ)). IsStatusAfter o n) (sym is.1) (inl s)
status_after (Err (Fault Source)) failed n is s = subst (λ (o : Option (List ℕ)). IsStatusAfter o n) (sym is) (not_keeper (Fault Source) n s (λ e. cc))
status_after (Err (Fault Sink)) failed n is s = subst (λ (o : Option (List ℕ)). IsStatusAfter o n) (sym is) (not_keeper (Fault Sink) n s (λ e. cc))
status_after (Err (Fault Memory)) None n is s = not_keeper (Fault Memory) n s (λ e. cc)
status_after (Err (Fault Memory)) (Some bytes) n is s = inr s

-- the calls of a session whose file was used
pub served_calls : {K : Type 0} (load : K → Bool → K → Type 0) (store : K → List ℕ → Bool → K → Type 0) (untouched : Type 0) (r : Result (Unit {0}) Failure) (n : ℕ) (ds : Option (List Due)) (old mid new : K) → load old true mid → (h : HasServed store ds r mid new) → IsStatusOf r n
    → Calls load store (h.stores) untouched n old new
served_calls load store untouched r n ds old mid new l h s =
    Loads (record { at_load = mid; loaded = l; at_failure = h.at_failure; stored = h.stored; failed = h.failed }) (status_after r (h.stores).failed n h.failed_is s)
