-- Which calls of the keeper a session makes, in which order, and the status with which it ends then.
-- Why: docs/DECISIONS.md, 175.
use Rattle.std.specs.Prelude.{◌≡◌, ◌≢◌, ◌⊎◌, ◌<◌, ◌++◌, ℕ, Bool, true, false, List, [], ◌∷◌, length, Option, Some, None, IfSome, OnOk, Result, Ok, Err}
use Rattle.rls_report.specs.declared.failures.CommandError.{CommandError}
use Rattle.rls_report.specs.declared.failures.Failure.{Failure}
use Rattle.rls_report.specs.declared.failures.Failure.TheVariants.{NoCommand, Command, Fault}
use Rattle.rls_report.specs.declared.failures.Fault.TheVariants.{Keeper, Source, Sink, Memory}
use Rattle.rls_seen.specs.Seen.{Seen}
use Rattle.rls_stages.specs.Calls.{IsKeepersStatus}
use Rattle.rls_stages.specs.KeptFile.{IsReadBack, bytes_over}
use Rattle.rls_session.specs.Due.{Due}

-- ---- what is stored

-- the bytes are those of this replica's file, which is read back
abbrev pub IsFileOf : Result Seen CommandError → List ℕ → Type 0
IsFileOf (Ok s) bytes = (bytes ≡ bytes_over s) × IsReadBack s
IsFileOf (Err e) bytes = ⊥

-- these are files that are called for, in order, from the first on
abbrev pub AreFilesOf : List Due → List (List ℕ) → Type 0
AreFilesOf ds [] = Unit {0}
AreFilesOf [] (bytes ∷ files) = ⊥
AreFilesOf (d ∷ ds) (bytes ∷ files) = IsFileOf d.ending bytes × AreFilesOf ds files

-- if it is known what is called for
abbrev pub AreDue : Option (List Due) → List (List ℕ) → Type 0
AreDue due files = IfSome due (λ ds. AreFilesOf ds files)

-- these are all files that are called for
abbrev pub AreAllFilesOf : List Due → List (List ℕ) → Type 0
AreAllFilesOf [] [] = Unit {0}
AreAllFilesOf [] (bytes ∷ files) = ⊥
AreAllFilesOf (d ∷ ds) [] = ⊥
AreAllFilesOf (d ∷ ds) (bytes ∷ files) = IsFileOf d.ending bytes × AreAllFilesOf ds files

-- this is the last of them
abbrev pub IsLastOf : Due → List Due → List ℕ → Type 0
IsLastOf d [] bytes = IsFileOf d.ending bytes
IsLastOf d (e ∷ ds) bytes = IsLastOf e ds bytes

abbrev pub IsLastFileOf : List Due → List ℕ → Type 0
IsLastFileOf [] bytes = ⊥
IsLastFileOf (d ∷ ds) bytes = IsLastOf d ds bytes

-- if it is known what is called for
abbrev pub IsLastDue : Option (List Due) → List ℕ → Type 0
IsLastDue due bytes = IfSome due (λ ds. IsLastFileOf ds bytes)

-- ---- of one store

-- the keeper was called once, to store bytes that are to be stored
abbrev pub StoresOnce : {K : Type 0} → (K → List ℕ → Bool → K → Type 0) → (List ℕ → Type 0) → Bool → K → K → Type 0
StoresOnce gives IsDue ok old new = (bytes : List ℕ) × IsDue bytes × gives old bytes ok new

-- the keeper was called once, to store, or not at all
abbrev pub HasSaved : {K : Type 0} → (K → List ℕ → Bool → K → Type 0) → (List ℕ → Type 0) → Result (Unit {0}) Failure → K → K → Type 0
HasSaved gives IsDue (Ok done) old new = StoresOnce gives IsDue true old new
HasSaved gives IsDue (Err NoCommand) old new = new ≡ old
HasSaved gives IsDue (Err (Command e)) old new = new ≡ old
HasSaved gives IsDue (Err (Fault Keeper)) old new = StoresOnce gives IsDue false old new
HasSaved gives IsDue (Err (Fault Source)) old new = new ≡ old
HasSaved gives IsDue (Err (Fault Sink)) old new = StoresOnce gives IsDue true old new
HasSaved gives IsDue (Err (Fault Memory)) old new = (new ≡ old) ⊎ StoresOnce gives IsDue false old new

-- ---- of several stores

-- the files that were stored, one after another, and the one that was then to be stored in vain, if there is one
pub record Stores : Type 0 where
  pub stored : List (List ℕ)
  pub failed : Option (List ℕ)

abbrev pub no_stores : Stores
no_stores = record { stored = []; failed = None }

abbrev pub and_failed : Option (List ℕ) → List (List ℕ)
and_failed None = []
and_failed (Some bytes) = bytes ∷ []

-- all of them, in order
abbrev pub tried : Stores → List (List ℕ)
tried x = x.stored ++ and_failed x.failed

-- the keeper was called to store these, one after another, and each call answered Ok
abbrev pub StoresEach : {K : Type 0} → (K → List ℕ → Bool → K → Type 0) → List (List ℕ) → K → K → Type 0
StoresEach {K} gives [] old new = new ≡ old
StoresEach {K} gives (bytes ∷ files) old new = (mid : K) × gives old bytes true mid × StoresEach gives files mid new

-- it was called to store this, and didn't; or it wasn't called
abbrev pub FailsOnce : {K : Type 0} → (K → List ℕ → Bool → K → Type 0) → Option (List ℕ) → K → K → Type 0
FailsOnce gives None old new = new ≡ old
FailsOnce gives (Some bytes) old new = gives old bytes false new

-- ---- of a stage

-- by the end of a stage: the store that failed, if there is one
abbrev pub IsFailedOf : Result (Unit {0}) Failure → Option (List ℕ) → Type 0
IsFailedOf (Err (Fault Keeper)) failed = (bytes : List ℕ) × (failed ≡ Some bytes)
IsFailedOf (Err (Fault Memory)) failed = Unit {0}
IsFailedOf r failed = failed ≡ None

-- The keeper was called for these stores alone, one after another. They are of the files that are called for, in order, and if the stage is
-- done of all of them, of which there is one at least.
pub record HasServed {K : Type 0} (gives : K → List ℕ → Bool → K → Type 0) (ds : Option (List Due)) (r : Result (Unit {0}) Failure) (old new : K) : Type 0 where
  pub stores : Stores
  pub at_failure : K
  pub stored : StoresEach gives stores.stored old at_failure
  pub failed : FailsOnce gives stores.failed at_failure new
  pub failed_is : IsFailedOf r stores.failed
  pub files : AreDue ds (tried stores)
  pub some : OnOk r (0 < length stores.stored)
  pub all : OnOk r (IfSome ds (λ ds. AreAllFilesOf ds stores.stored))

-- ---- of a session

-- a load that answers Ok, and then these stores
pub record LoadsAndStores {K : Type 0} (load : K → Bool → K → Type 0) (store : K → List ℕ → Bool → K → Type 0) (x : Stores) (old new : K) : Type 0 where
  pub at_load : K
  pub loaded : load old true at_load
  pub at_failure : K
  pub stored : StoresEach store x.stored at_load at_failure
  pub failed : FailsOnce store x.failed at_failure new

-- a store that fails gives the status
abbrev pub IsStatusAfter : Option (List ℕ) → ℕ → Type 0
IsStatusAfter None n = n ≢ 7
IsStatusAfter (Some bytes) n = IsKeepersStatus n

-- the calls of the keeper that lead from old to new, in their order, and the status n
pub data Calls {K : Type 0} (load : K → Bool → K → Type 0) (store : K → List ℕ → Bool → K → Type 0) (x : Stores) (untouched : Type 0) (n : ℕ) (old new : K) : Type 0 where
  -- none: memory ran out before
  CallsNothing : new ≡ old → n ≡ 10 → x ≡ no_stores → Calls load store x untouched n old new
  -- a load that fails is the end, and the other devices are as before
  FailsToLoad : load old false new → IsKeepersStatus n → untouched → x ≡ no_stores → Calls load store x untouched n old new
  -- a load, and then the stores; one that fails is the end
  Loads : LoadsAndStores load store x old new → IsStatusAfter x.failed n → Calls load store x untouched n old new
