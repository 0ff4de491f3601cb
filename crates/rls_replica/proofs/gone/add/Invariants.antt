use Rattle.std.proofs.Common.{◌⊎◌, List, length}
use Rattle.rls_ident.specs.declared.tuple.Tuple.{Tuple}
use Rattle.rls_ident.specs.Lists.{IsIn}
use Rattle.rls_runs.specs.Runs.{joined}
use Rattle.rls_replica.proofs.gone.add.Given as goal

-- what was taken out is in the list that is put there, and nothing else is
abbrev pub invariant-loop-last : goal.invariant-loop-last
invariant-loop-last l = record {
  all : (x : List Tuple) → IsIn x (joined l.fn.lists.items) ⊎ IsIn x l.fn.ids → IsIn x (joined l.lists.items) ⊎ IsIn x l.ids;
  only : (x : List Tuple) → IsIn x (joined l.lists.items) ⊎ IsIn x l.ids → IsIn x (joined l.fn.lists.items) ⊎ IsIn x l.fn.ids;
}

abbrev pub decreases-loop-last : goal.decreases-loop-last
decreases-loop-last l = length l.lists.items
