-- What a stop at any moment of a command or a session leaves.
-- Why: docs/DECISIONS.md, 174.
use Rattle.std.specs.Prelude.{◌≡◌, ◌⊎◌, ℕ, Bool, true, false, List, [], ◌∷◌, Option, Some, None, IsTrue}
use Rattle.rls_ident.specs.Lists.{IsIn}
use Rattle.rls_journal.specs.Areas.{Areas, kept}
use Rattle.rls_journal.specs.Disk.{LeavesOnly}
use Rattle.rls_journal.specs.Keeper.{IsOldOrNew}
use Rattle.rls_journal.specs.Slots.{HasStored}
use Rattle.rls_session.specs.Calls.{AreDue, Stores, tried}
use Rattle.rls_session.specs.Due.{Due}

-- the kept file is the one from before
abbrev pub IsOld : Option (List ℕ) → Areas → Type 0
IsOld before areas = kept areas ≡ before

-- a stop at any moment since old leaves the file from before, or if there is something to store a file whose bytes are to be stored
abbrev pub LeavesOldOrDue : {D : Type 0} → (D → ℕ) → (D → ℕ → Areas → Type 0) → Bool → (List ℕ → Type 0) → Option (List ℕ) → D → D → Type 0
LeavesOldOrDue moment left_since stores IsDue before old new =
    LeavesOnly moment left_since old new (IsOld before)
    ⊎ (IsTrue stores × ((bytes : List ℕ) × IsDue bytes × LeavesOnly moment left_since old new (IsOldOrNew before bytes)))

-- the kept file is one whose bytes are to be stored, now and after a stop
abbrev pub HasDue : {D : Type 0} → (D → Option Areas) → (D → Areas → Type 0) → (List ℕ → Type 0) → D → D → Type 0
HasDue seen may_leave IsDue old new = (bytes : List ℕ) × IsDue bytes × HasStored bytes (seen old) (seen new) (may_leave new)

-- ---- of a session

-- the kept file is the one from before, or one of these
abbrev pub IsOldOrOneOf : Option (List ℕ) → List (List ℕ) → Areas → Type 0
IsOldOrOneOf before files areas = (kept areas ≡ before) ⊎ ((bytes : List ℕ) × IsIn bytes files × (kept areas ≡ Some bytes))

-- A stop at any moment since old leaves the file from before until the keeper is called to store these bytes, and until it answers that file or
-- these bytes. It answers Ok or not.
pub record LeavesInStore {D : Type 0} (moment : D → ℕ) (left_since : D → ℕ → Areas → Type 0) (stores : List ℕ → Bool → D → D → Type 0) (before : Option (List ℕ)) (bytes : List ℕ) (ok : Bool) (old new : D) : Type 0 where
  pub called : D
  pub until : LeavesOnly moment left_since old called (IsOld before)
  pub store : stores bytes ok called new
  pub within : LeavesOnly moment left_since called new (IsOldOrNew before bytes)

-- In turn for each of these stores: the file of the last one that answered Ok (or the one from before, if none has), until the next is called;
-- then that or its own, until it answers. The last one may have failed.
abbrev pub LeavesInTurn : {D : Type 0} → (D → ℕ) → (D → ℕ → Areas → Type 0) → (List ℕ → Bool → D → D → Type 0) → Option (List ℕ) → List (List ℕ) → Option (List ℕ) → D → D → Type 0
LeavesInTurn {D} moment left_since stores before [] None old new = LeavesOnly moment left_since old new (IsOld before)
LeavesInTurn {D} moment left_since stores before [] (Some bytes) old new = LeavesInStore moment left_since stores before bytes false old new
LeavesInTurn {D} moment left_since stores before (bytes ∷ files) failed old new =
    (answered : D) × LeavesInStore moment left_since stores before bytes true old answered × LeavesInTurn moment left_since stores (Some bytes) files failed answered new

-- A stop at any moment since old leaves the file from before or one of those that the session is to store, in turn. These are files that are
-- called for, in order, if it is known what is called for.
pub record LeavesOldOrStores {D : Type 0} (moment : D → ℕ) (left_since : D → ℕ → Areas → Type 0) (stores : List ℕ → Bool → D → D → Type 0) (ds : Option (List Due)) (before : Option (List ℕ)) (old new : D) : Type 0 where
  pub files : Stores
  pub due : AreDue ds (tried files)
  pub leaves : LeavesOnly moment left_since old new (IsOldOrOneOf before (tried files))
  pub in_turn : LeavesInTurn moment left_since stores before files.stored files.failed old new
