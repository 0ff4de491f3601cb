use Rattle.std.proofs.Common.{◌≡◌, map, take}
use Rattle.rls_undo.specs.Plans.{deletion}
use Rattle.rls_undo.proofs.planning.deletions_of.Given as goal

-- those of the ranges in front
abbrev pub invariant-loop-range : goal.invariant-loop-range
invariant-loop-range l = l.plan.items ≡ map deletion (take l.range-index l.ranges)
