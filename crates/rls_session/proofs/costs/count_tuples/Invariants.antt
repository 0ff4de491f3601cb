use Rattle.std.proofs.Common.{◌≡◌, ◌-◌, ◌^◌, min, take}
use Rattle.rls_session.specs.Costs.{tuples_in}
use Rattle.rls_session.proofs.costs.count_tuples.Given as goal

-- the runs so far
abbrev pub invariant-loop-run : goal.invariant-loop-run
invariant-loop-run l = l.total ≡ min (tuples_in (take l.run-index l.runs)) (2 ^ 64 - 1)
