use Rattle.std.proofs.Common.{◌-◌, ◌≤◌, List}
use Rattle.rls_ident.specs.declared.tuple.Tuple.{Tuple}
use Rattle.rls_ident.specs.Lists.{IsIn}
use Rattle.rls_replica.specs.Unions.{IsPut, Stands}
use Rattle.rls_replica.proofs.known.front_of.Given as goal

-- those in front are put, and no others
abbrev pub invariant-loop-at : goal.invariant-loop-at
invariant-loop-at l = record {
  put : IsPut l.ids l.at l.front;
  within : l.at ≤ l.count;
  only : (x : List Tuple) → IsIn x l.front → Stands l.ids 0 l.at x;
}

abbrev pub decreases-loop-at : goal.decreases-loop-at
decreases-loop-at l = l.count - l.at
