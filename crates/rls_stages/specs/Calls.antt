-- Which calls of the keeper were made, in the words with which the keeper says what a call makes of it.
use Rattle.std.specs.Prelude.{◌≡◌, ◌≢◌, ◌⊎◌, ℕ, List, Bool, true, false, IsTrue, IsFalse, Option, Result, Ok, Err}
use Rattle.rls_ident.specs.declared.limits.TheConstants.{FILE_BYTES}
use Rattle.rls_io.specs.declared.devices.Found.{Found}
use Rattle.rls_io.specs.declared.devices.LoadError.{LoadError}
use Rattle.rls_io.specs.declared.devices.LoadError.TheVariants as load_error
use Rattle.rls_io.specs.Device.{HasFound}
use Rattle.rls_stages.specs.declared.errors.OpenError.{OpenError}
use Rattle.rls_stages.specs.declared.errors.OpenError.TheVariants.{Command, KeeperFault, OutOfMemory}

-- ---- of a stage

-- the keeper was called once, to load; if memory ran out, that may have been before the load, in it or after it
abbrev pub HasLoaded : {K X : Type 0} → (K → Bool → K → Type 0) → Result X OpenError → K → K → Type 0
HasLoaded gives (Ok x) old new = gives old true new
HasLoaded gives (Err (Command e)) old new = gives old true new
HasLoaded gives (Err KeeperFault) old new = gives old false new
HasLoaded gives (Err OutOfMemory) old new = (new ≡ old) ⊎ gives old true new ⊎ gives old false new

-- the keeper was called once, to load, and found a file of which this holds
abbrev pub Finds : {K : Type 0} → (K → Result Found LoadError → K → Type 0) → (Option (List ℕ) → Type 0) → K → K → Type 0
Finds load Holds old new = (kept : Option (List ℕ)) × HasFound load FILE_BYTES kept old new × Holds kept

-- it found a file of which this holds, or it failed; if memory ran out, that may have been before the load, in it or after it
abbrev pub FindsUnlessFailed : {K X : Type 0} → (K → Result Found LoadError → K → Type 0) → (Option (List ℕ) → Type 0) → Result X OpenError → K → K → Type 0
FindsUnlessFailed load Holds (Ok x) old new = Finds load Holds old new
FindsUnlessFailed load Holds (Err (Command e)) old new = Finds load Holds old new
FindsUnlessFailed load Holds (Err KeeperFault) old new = load old (Err load_error.Failed) new
FindsUnlessFailed load Holds (Err OutOfMemory) old new = (new ≡ old) ⊎ Finds load (λ _. Unit {0}) old new ⊎ load old (Err load_error.OutOfMemory) new

-- ---- of a command

-- a load that answers Ok, and then a store of bytes that are to be stored, which answers Ok or doesn't
pub record LoadsAndStores {K : Type 0} (load : K → Bool → K → Type 0) (store : K → List ℕ → Bool → K → Type 0) (IsDue : List ℕ → Type 0) (ok : Bool) (old new : K) : Type 0 where
  pub between : K
  pub loaded : load old true between
  pub bytes : List ℕ
  pub due : IsDue bytes
  pub stored : store between bytes ok new

-- the keeper failed, or memory ran out
abbrev pub IsKeepersStatus : ℕ → Type 0
IsKeepersStatus n = (n ≡ 7) ⊎ (n ≡ 10)

-- The calls of the keeper that lead from old to new, in their order, and the status n. Whether the keeper is needed is `needs`, whether
-- there is something to store `stores`. The file is stored with each status of `Surely`, and only with those of `Perhaps`.
pub data CallsOf {K : Type 0} (load : K → Bool → K → Type 0) (store : K → List ℕ → Bool → K → Type 0) (needs stores : Bool) (IsDue : List ℕ → Type 0) (Surely Perhaps : ℕ → Type 0) (untouched : Type 0) (n : ℕ) (old new : K) : Type 0 where
  -- none: no file is needed, or memory ran out before
  CallsNothing : new ≡ old → IsFalse needs ⊎ (n ≡ 10) → (Surely n → IsFalse stores) → CallsOf load store needs stores IsDue Surely Perhaps untouched n old new
  -- a load that fails is the end, and the other devices are as before
  FailsToLoad : load old false new → IsKeepersStatus n → untouched → CallsOf load store needs stores IsDue Surely Perhaps untouched n old new
  -- a load; nothing is stored, or the end comes before
  Loads : load old true new → n ≢ 7 → (Surely n → IsFalse stores) → CallsOf load store needs stores IsDue Surely Perhaps untouched n old new
  -- a load, and then a store that fails is the end
  FailsToStore : LoadsAndStores load store IsDue false old new → IsTrue stores → IsKeepersStatus n → CallsOf load store needs stores IsDue Surely Perhaps untouched n old new
  -- a load, and then a store
  Stores : LoadsAndStores load store IsDue true old new → IsTrue stores → Perhaps n → CallsOf load store needs stores IsDue Surely Perhaps untouched n old new
