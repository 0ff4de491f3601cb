-- Which calls of the keeper a command makes, in which order, and the status with which it ends then.
use Rattle.std.specs.Prelude.{◌≡◌, ℕ, Bool, true, false, List, Option, Some, None, IfSome, Result, Ok, Err}
use Rattle.rls_stages.specs.Calls.{CallsOf, HasLoaded}
use Rattle.rls_stages.specs.KeptFile.{bytes_over}
use Rattle.rls_top.specs.declared.made.Made.{Made}
use Rattle.rls_top.specs.declared.stages.DeviceError.{DeviceError}
use Rattle.rls_top.specs.declared.stages.DeviceError.TheVariants as device
use Rattle.rls_top.specs.declared.stages.MakeError.{MakeError}
use Rattle.rls_top.specs.declared.stages.MakeError.TheVariants.{Open, Input}
use Rattle.rls_top.specs.declared.words.Command.{Command}
use Rattle.rls_top.specs.Due.{Due, NoCommand, Makes, Stops, calls_keeper, may_store}
use Rattle.rls_top.specs.Endings.{IsStored}

-- ---- of a stage

-- the keeper was called once, to load, before anything was stored
abbrev pub HasMade : {K : Type 0} → (K → Bool → K → Type 0) → Result Made MakeError → K → K → Type 0
HasMade gives (Ok made) old new = gives old true new
HasMade gives (Err (Open e)) old new = HasLoaded {X = Made} gives (Err e) old new
HasMade gives (Err (Input e)) old new = gives old true new

-- this holds unless the kept file was opened
abbrev pub UnlessOpened : MakeError → Type 0 → Type 0
UnlessOpened (Open e) X = X
UnlessOpened (Input e) X = Unit {0}

-- the keeper was called once, to store these bytes
abbrev pub HasFinished : {K : Type 0} → (K → List ℕ → Bool → K → Type 0) → List ℕ → Result (Unit {0}) DeviceError → K → K → Type 0
HasFinished gives bytes (Ok done) old new = gives old bytes true new
HasFinished gives bytes (Err device.SinkFault) old new = gives old bytes true new
HasFinished gives bytes (Err device.KeeperFault) old new = gives old bytes false new
HasFinished gives bytes (Err device.OutOfMemory) old new = gives old bytes false new

-- ---- of a command

-- the bytes are those of the file that is called for
abbrev pub IsDueFile : Due → List ℕ → Type 0
IsDueFile NoCommand bytes = ⊥
IsDueFile (Makes None report refused) bytes = ⊥
IsDueFile (Makes (Some s) report refused) bytes = bytes ≡ bytes_over s
IsDueFile (Stops e) bytes = ⊥

-- the same, if what is called for is known
abbrev pub IsDueOf : Option Due → List ℕ → Type 0
IsDueOf d bytes = IfSome d (λ d. IsDueFile d bytes)

-- The calls of the keeper that lead from old to new, and the status n. The command c calls for d. The input isn't read after a load that fails.
abbrev pub Calls : {K : Type 0} → (K → Bool → K → Type 0) → (K → List ℕ → Bool → K → Type 0) → Option Command → Option Due → Type 0 → ℕ → K → K → Type 0
Calls load store c d unread n old new = CallsOf load store (calls_keeper c) (may_store c) (IsDueOf d) IsStored IsStored unread n old new
