use Rattle.rls_rename.proofs.Kept.{greatest_kept}
use Rattle.rls_replica.proofs.applying.rename_text.Goals as goal

pub new-map-requires-clause-from : goal.new-map-requires-clause-from
new-map-requires-clause-from c = rw c.greatest.ensures.greatest (greatest_kept c.args.epochs.now.epochs.top c.args.epochs.now.epochs.nodes)
