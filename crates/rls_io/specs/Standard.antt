-- What the adapter of std's readers and writers is made of.
use Rattle.std.specs.Prelude.{ℕ}
use Rattle.rls_io.specs.declared.standard.StdDevice.{StdDevice}

-- its reader or writer
abbrev pub inner_of : {T : Type 0} → StdDevice T → T
inner_of device = device.inner

-- the failures that it has counted
abbrev pub faults_of : {T : Type 0} → StdDevice T → ℕ
faults_of device = device.faults
