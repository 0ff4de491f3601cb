use Rattle.std.proofs.Common.{◌≡◌, ◌++◌, take, drop, length}
use Rattle.rls_ident.specs.Vectors.{join}
use Rattle.rls_ident.proofs.vector.join_counts.Given as goal

-- the counts so far are done
abbrev pub invariant-loop-i : goal.invariant-loop-i
invariant-loop-i l = record {
  members : length l.counts ≡ length l.others;
  total : take l.i l.counts ++ join (drop l.i l.counts) (drop l.i l.others) ≡ join l.fn.counts l.others;
}
