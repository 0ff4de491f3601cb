use Rattle.std.proofs.Common.{◌≡◌, length}
use Rattle.std.proofs.Common.{◌≤◌}
use Rattle.rls_seen.specs.Kept.{left_below}
use Rattle.rls_fields.proofs.write_rows.left_count.Given as goal

abbrev pub invariant-loop-member : goal.invariant-loop-member
invariant-loop-member l = record { count : l.count ≡ length (left_below l.acks l.member); few : l.count ≤ l.member }
