use Rattle.std.proofs.Common.{◌≡◌}
use Rattle.rls_seen.specs.Kept.{left_below}
use Rattle.rls_parts.proofs.lists.left_members.Given as goal

-- those below
abbrev pub invariant-loop-member : goal.invariant-loop-member
invariant-loop-member l = l.left ≡ left_below l.acks l.member
