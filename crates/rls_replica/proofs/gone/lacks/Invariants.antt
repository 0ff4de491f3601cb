use Rattle.std.proofs.Common.{drop}
use Rattle.rls_ident.specs.Lists.{IsIn}
use Rattle.rls_runs.specs.Runs.{joined}
use Rattle.rls_replica.proofs.gone.lacks.Given as goal

-- none in front has it
abbrev pub invariant-loop-ids : goal.invariant-loop-ids
invariant-loop-ids l = IsIn l.id (joined l.lists) → IsIn l.id (joined (drop l.ids-index l.lists))
