use Rattle.rls_rename.proofs.Kept.{greatest_kept, greatest_within_kept}
use Rattle.rls_replica.proofs.looking.learn_targets.Goals as goal

pub prepare-requires : goal.prepare-requires
prepare-requires c =
    let E = c.args.epochs.now.epochs in
    record {
      from = rw c.greatest_in-due.ensures.greatest (greatest_within_kept E.top E.nodes c.args.op.now.context);
      to = rw c.greatest-greatest.ensures.greatest (greatest_kept E.top E.nodes);
    }
