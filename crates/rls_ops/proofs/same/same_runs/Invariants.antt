use Rattle.std.proofs.Common.{◌≡◌, take}
use Rattle.rls_ops.proofs.same.same_runs.Given as goal

-- the runs so far are equal
abbrev pub invariant-loop-i : goal.invariant-loop-i
invariant-loop-i l = take l.i l.runs ≡ take l.i l.others
