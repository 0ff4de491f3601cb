use Rattle.std.proofs.Common.{◌≡◌}
use Rattle.rls_io.specs.Device.{Keeps}
use Rattle.rls_io.proofs.standard.StdDeviceSource.read.Given as goal

-- an interrupted call is no failure, and changes nothing that is told
abbrev pub invariant-loop : goal.invariant-loop
invariant-loop g l = record {
  uncounted : l.self.faults ≡ l.fn.self.faults;
  kept : Keeps (g.R.Read.remaining l.fn.self.inner) (g.R.Read.remaining l.self.inner);
}
