use Rattle.std.proofs.Common.{◌+◌, ◌-◌, ◌⊎◌, List, length}
use Rattle.rls_ident.specs.declared.tuple.Tuple.{Tuple}
use Rattle.rls_ident.specs.Lists.{IsIn}
use Rattle.rls_replica.specs.Unions.{IsPut}
use Rattle.rls_replica.proofs.uniting.union.Given as goal

-- all in front are put
abbrev pub invariant-loop-i : goal.invariant-loop-i
invariant-loop-i l = record {
  first : IsPut l.a l.i l.both;
  second : IsPut l.b l.j l.both;
  only : (x : List Tuple) → IsIn x l.both → IsIn x l.a ⊎ IsIn x l.b;
}

abbrev pub decreases-loop-i : goal.decreases-loop-i
decreases-loop-i l = (length l.a + length l.b) - (l.i + l.j)
