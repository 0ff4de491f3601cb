use Rattle.rls_rename.proofs.Kept.{greatest_kept}
use Rattle.rls_replica.proofs.replica.Replica.first_unknown.Goals as goal

pub translate_runs-requires-clause-to : goal.translate_runs-requires-clause-to
translate_runs-requires-clause-to c = rw c.greatest.ensures.greatest (greatest_kept c.self.inside.epochs.epochs.top c.self.inside.epochs.epochs.nodes)
