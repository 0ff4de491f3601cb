-- What a keeper makes of its disk.
use Rattle.std.specs.Prelude.{◌≡◌, ◌⊎◌, ℕ, List, Bool, true, false, Option, Some, None, IfSome}
use Rattle.std.specs.Option.{option_map}
use Rattle.rls_journal.specs.Areas.{Areas, kept}
use Rattle.rls_journal.specs.Disk.{LeavesOnly}
use Rattle.rls_journal.specs.Slots.{HasStored, Holds, HoldsEither, IsSound, Looks}
use Rattle.rls_journal.specs.declared.keeper.DiskKeeper.{DiskKeeper}

-- the disk of a keeper
abbrev pub disk_of : {D : Type 0} → DiskKeeper D → D
disk_of keeper = keeper.disk

-- the file of a keeper, where it tells it
abbrev pub told_file : Bool → Option Areas → Option (Option (List ℕ))
told_file true seen = option_map kept seen
told_file false seen = None

abbrev pub file_told : {D : Type 0} → (D → Option Areas) → DiskKeeper D → Option (Option (List ℕ))
file_told seen keeper = told_file keeper.is_sure (seen keeper.disk)

-- nothing is pending: a crash leaves what is read, where the disk tells it
abbrev pub IsStill : {D : Type 0} → (D → Option Areas) → (D → Areas → Type 0) → D → Type 0
IsStill seen may_leave disk = IfSome (seen disk) (λ s. (c : Areas) → may_leave disk c → c ≡ s)

-- whatever a crash leaves, the kept file is the one that is read; a disk that doesn't retry holds that file besides
abbrev pub Rests : Type 0 → Areas → (Areas → Type 0) → Type 0
Rests retries seen may_leave = (retries × ((c : Areas) → may_leave c → kept c ≡ kept seen)) ⊎ Holds (kept seen) (kept seen) seen may_leave

-- at rest, where the disk tells its content
abbrev pub IsAtRest : {D : Type 0} → Type 0 → (D → Option Areas) → (D → Areas → Type 0) → D → Type 0
IsAtRest retries seen may_leave disk = IfSome (seen disk) (λ s. Rests retries s (may_leave disk))

-- the kept file is the one from before, or these bytes
abbrev pub IsOldOrNew : Option (List ℕ) → List ℕ → Areas → Type 0
IsOldOrNew before bytes areas = (kept areas ≡ before) ⊎ (kept areas ≡ Some bytes)

-- ---- what a call makes of the disk

-- a load: it looks. After an Ok the keeper is at rest
pub record LoadGives {D : Type 0} (retries : Type 0) (seen : D → Option Areas) (may_leave : D → Areas → Type 0) (moment : D → ℕ) (left_since : D → ℕ → Areas → Type 0) (ok : Bool) (old new : D) : Type 0 where
  pub looks : Looks retries seen may_leave moment left_since old new
  pub rest : ok ≡ true → IsSound retries seen may_leave old → IsAtRest retries seen may_leave new

-- a store, at rest: a crash at any moment of it leaves the file from before or these bytes. After an Ok a crash leaves these bytes
pub record StoreGives {D : Type 0} (retries : Type 0) (seen : D → Option Areas) (may_leave : D → Areas → Type 0) (moment : D → ℕ) (left_since : D → ℕ → Areas → Type 0) (bytes : List ℕ) (ok : Bool) (old new : D) : Type 0 where
  pub any_moment : IsAtRest retries seen may_leave old → IfSome (seen old) (λ s. LeavesOnly moment left_since old new (IsOldOrNew (kept s) bytes))
  pub holds : IfSome (seen old) (λ s. (file : Option (List ℕ)) → Holds file file s (may_leave old) → HoldsEither seen may_leave file (Some bytes) new)
  pub stored : ok ≡ true → HasStored bytes (seen old) (seen new) (may_leave new)
  pub rest : ok ≡ true → IsAtRest retries seen may_leave new
