use Rattle.std.proofs.Common.{◌≡◌, ◌-◌, ◌^◌, min, take, sum_by}
use Rattle.rls_ops.specs.Sizes.{tuple_size}
use Rattle.rls_ops.proofs.size.tuples_len.Given as goal

-- the tuples so far
abbrev pub invariant-loop-tuple : goal.invariant-loop-tuple
invariant-loop-tuple l = l.total ≡ min (sum_by tuple_size (take l.tuple-index l.tuples)) (2 ^ 64 - 1)
