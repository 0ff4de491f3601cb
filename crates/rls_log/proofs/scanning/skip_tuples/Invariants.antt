use Rattle.std.proofs.Common.{◌≡◌, ◌-◌}
use Rattle.rls_log.specs.Scanned.{skipped_at}
use Rattle.rls_log.proofs.scanning.skip_tuples.Given as goal

-- those that are left are passed over as all are
abbrev pub invariant-loop : goal.invariant-loop
invariant-loop l = skipped_at (l.count - l.counter) l.rest ≡ skipped_at l.count l.bytes
