use Rattle.rls_changes.proofs.Looking.{epoch_kept, few_chars}
use Rattle.rls_changes.proofs.finding.changes_of.Goals as goal

pub inserting-requires-clause-kept : goal.inserting-requires-clause-kept
inserting-requires-clause-kept c = epoch_kept c.args.replica.now c.args.op.now c.requires.may

pub inserting-requires-clause-few : goal.inserting-requires-clause-few
inserting-requires-clause-few c = few_chars _ c.args.op.now _ _ c.requires.may.shape c.in-Insert.is

pub deleting-requires : goal.deleting-requires
deleting-requires c = record { kept = epoch_kept c.args.replica.now c.args.op.now c.requires.may }
