-- The keeper of a folder's replica file: its faults, and what a call makes of it.
use Rattle.std.specs.Prelude.{◌≡◌, ◌≢◌, ◌⊎◌, ℕ, Bool, true, false, is_ok, List, Result, Err}
use Rattle.rls_io.specs.declared.devices.Found.{Found}
use Rattle.rls_io.specs.declared.devices.LoadError.{LoadError}
use Rattle.rls_io.specs.declared.devices.LoadError.TheVariants.{Failed}
use Rattle.rls_io.specs.Device.{one_more}
use Rattle.rls_cli.specs.declared.folder.FolderKeeper.{FolderKeeper}
use Rattle.rls_cli.specs.declared.folder.FolderKeeper.TheVariants.{File, Disk, Unknown}

-- a call that answers Ok counts no fault; one that doesn't counts one, unless memory ran out
abbrev pub Counts : Bool → ℕ → ℕ → Type 0
Counts true before after = after ≡ before
Counts false before after = (after ≡ before) ⊎ (after ≡ one_more before)

-- those of the keeper that was chosen
abbrev pub faults_of : {A B : Type 0} → (A → ℕ) → (B → ℕ) → FolderKeeper A B → ℕ
faults_of a b (File keeper) = a keeper
faults_of a b (Disk keeper) = b keeper
faults_of a b (Unknown faults) = faults

-- the keeper that was chosen was called once, to load, and gave this answer
abbrev pub HandsOnLoad : {A B : Type 0} → (A → Result Found LoadError → A → Type 0) → (B → Result Found LoadError → B → Type 0) → FolderKeeper A B → Result Found LoadError → FolderKeeper A B → Type 0
HandsOnLoad a b (File old) answer (File new) = a old answer new
HandsOnLoad a b (Disk old) answer (Disk new) = b old answer new
HandsOnLoad a b (Unknown old) answer (Unknown new) = (answer ≡ Err Failed) × (new ≡ one_more old)
HandsOnLoad a b _ answer _ = ⊥

-- it was called once, to store these bytes
abbrev pub HandsOnStore : {A B : Type 0} → (A → List ℕ → Bool → A → Type 0) → (B → List ℕ → Bool → B → Type 0) → FolderKeeper A B → List ℕ → Bool → FolderKeeper A B → Type 0
HandsOnStore a b (File old) bytes ok (File new) = a old bytes ok new
HandsOnStore a b (Disk old) bytes ok (Disk new) = b old bytes ok new
HandsOnStore a b (Unknown old) bytes ok (Unknown new) = (ok ≡ false) × (new ≡ one_more old)
HandsOnStore a b _ bytes ok _ = ⊥

-- a load
abbrev pub LoadGives : {A B : Type 0} → (A → Result Found LoadError → A → Type 0) → (B → Result Found LoadError → B → Type 0) → (A → ℕ) → (B → ℕ) → FolderKeeper A B → Result Found LoadError → FolderKeeper A B → Type 0
LoadGives a b a_faults b_faults old answer new = HandsOnLoad a b old answer new × Counts (is_ok answer) (faults_of a_faults b_faults old) (faults_of a_faults b_faults new)

-- and a store
abbrev pub StoreGives : {A B : Type 0} → (A → List ℕ → Bool → A → Type 0) → (B → List ℕ → Bool → B → Type 0) → (A → ℕ) → (B → ℕ) → FolderKeeper A B → List ℕ → Bool → FolderKeeper A B → Type 0
StoreGives a b a_faults b_faults old bytes ok new = HandsOnStore a b old bytes ok new × Counts ok (faults_of a_faults b_faults old) (faults_of a_faults b_faults new)

-- the keeper failed at one call with status 7, and with none if the status isn't 10 either
abbrev pub CountsWith : ℕ → ℕ → ℕ → Type 0
CountsWith n before after = (n ≡ 7 → after ≡ one_more before) × (n ≢ 7 → n ≢ 10 → after ≡ before)
