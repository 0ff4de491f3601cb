use Rattle.rls_replica.proofs.Changes.{renamed_keeps}
use Rattle.rls_replica.proofs.renaming_text.RenamingText.new.Goals as goal

pub invariant_of-result : goal.invariant_of-result
invariant_of-result c = record {
  from_kept = c.requires.from;
  to_kept = c.requires.to;
  ordered = renamed_keeps c.args.epochs.now.epochs.nodes c.args.from c.args.to c.args.renaming.now c.requires.nodes c.requires.former;
}
