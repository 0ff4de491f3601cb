use Rattle.std.proofs.Common.{◌≡◌, drop, length}
use Rattle.rls_ident.specs.Identifiers.{ident_cmp}
use Rattle.rls_ident.proofs.ident.same_tuples.Given as goal

-- the tuples so far are equal
abbrev pub invariant-loop-i : goal.invariant-loop-i
invariant-loop-i l = record {
  long : length l.tuples ≡ length l.others;
  so_far : ident_cmp (drop l.i l.tuples) (drop l.i l.others) ≡ ident_cmp l.tuples l.others;
}
