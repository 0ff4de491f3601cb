use Rattle.std.proofs.Common.{◌≡◌}
use Rattle.rls_seen.specs.Kept.{other_rows}
use Rattle.rls_parts.proofs.lists.other_rows.Given as goal

-- those of the members below
abbrev pub invariant-loop-member : goal.invariant-loop-member
invariant-loop-member l = l.rows ≡ other_rows l.acks l.member
