use Rattle.std.proofs.Common.{◌≡◌, replicate}
use Rattle.rls_stable.proofs.rows.zero_rows.Given as goal

-- so many rows are there
abbrev pub invariant-loop : goal.invariant-loop
invariant-loop l = l.rows.items ≡ replicate l.counter (replicate l.members 0)
