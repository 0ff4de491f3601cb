use Rattle.std.proofs.Common.{◌≤◌}
use Rattle.rls_runs.proofs.text.beginnings.Given as goal

-- no more than bytes so far
abbrev pub invariant-loop-byte : goal.invariant-loop-byte
invariant-loop-byte l = l.count ≤ l.byte-index
