use Rattle.std.proofs.Common.{length, ◌-◌, ◌≤◌}
use Rattle.rls_io.specs.Device.{Passes}
use Rattle.rls_io.proofs.Told.{Took}
use Rattle.rls_io.proofs.reading.read_all.Given as goal

-- what was read so far
abbrev pub invariant-loop-bytes : goal.invariant-loop-bytes
invariant-loop-bytes g l = record {
  within : length l.bytes.items ≤ l.limit;
  taken : Took (g.S.Source.left l.fn.source) (g.S.Source.left l.source) l.bytes.items;
  gave : Passes g.S.Source.read_gives l.bytes.items l.fn.source l.source;
  never_falls : g.S.Source.faults l.fn.source ≤ g.S.Source.faults l.source;
}

abbrev pub decreases-loop-bytes : goal.decreases-loop-bytes
decreases-loop-bytes g l = l.limit - length l.bytes.items
