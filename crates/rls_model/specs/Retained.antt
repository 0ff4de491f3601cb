-- The epochs that are retained, and the numbers of a replica.
use Rattle.rls_model.specs.declared.counts.Counts.{Counts}
unfoldable pub use Rattle.rls_model.specs.RetainedEpochs.{marked, needed, retained, retained_renamings}
use Rattle.rls_model.specs.Receiving.{State}
use Rattle.rls_model.specs.View.{plain_of}
use Rattle.rls_model.specs.Rules as rules

-- characters, runs, waiting operations, unstable operations, retained epochs and the former identifiers below the topmost of them
unfoldable pub counts : State → Counts
counts s = rules.counts (plain_of s.history) s.waiting
