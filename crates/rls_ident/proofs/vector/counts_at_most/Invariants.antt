use Rattle.std.proofs.Common.{◌≡◌, ◌≤◌, drop, length}
use Rattle.rls_ident.specs.Vectors.{at_most}
use Rattle.rls_ident.proofs.vector.counts_at_most.Given as goal

-- the counts so far are at most the others
abbrev pub invariant-loop-i : goal.invariant-loop-i
invariant-loop-i l = record {
  not_longer : length l.counts ≤ length l.others;
  so_far : at_most (drop l.i l.counts) (drop l.i l.others) ≡ at_most l.counts l.others;
}
