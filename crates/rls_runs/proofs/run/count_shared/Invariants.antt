use Rattle.std.proofs.Common.{◌≡◌, ◌≤◌, take}
use Rattle.rls_runs.proofs.run.count_shared.Given as goal

-- the tuples so far are equal
abbrev pub invariant-loop-i : goal.invariant-loop-i
invariant-loop-i l = (take l.i l.front ≡ take l.i l.own) × (l.i ≤ l.end)
