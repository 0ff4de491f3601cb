use Rattle.std.proofs.Common.{◌≡◌, take}
use Rattle.rls_parts.proofs.rows.others.Given as goal

-- the rows so far
abbrev pub invariant-loop-row : goal.invariant-loop-row
invariant-loop-row l = l.others.items ≡ take l.row-index l.rows
