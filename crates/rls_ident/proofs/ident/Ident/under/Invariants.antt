use Rattle.std.proofs.Common.{◌≡◌, ◌<◌, drop, length}
use Rattle.rls_ident.specs.Tuples.{tuple_cmp}
use Rattle.rls_ident.specs.Maps.{under}
use Rattle.rls_ident.proofs.Loops.{turned}
use Rattle.rls_ident.proofs.ident.Ident.under.Given as goal

-- the tuples so far are those of the pattern
abbrev pub invariant-loop-i : goal.invariant-loop-i
invariant-loop-i l = record {
  within : l.place < length l.pattern;
  total : under tuple_cmp (drop l.i l.self) (turned l.pattern l.place) ≡ under tuple_cmp l.self l.pattern;
}
