use Rattle.test_replicas.proofs.Renamed.{forward_keeps}
use Rattle.test_replicas.proofs.documents.RenamedBy.new.Goals as goal

pub invariant_of-result : goal.invariant_of-result
invariant_of-result c = record {
  ordered = forward_keeps c.args.renaming.now c.total-total.ensures.former;
}
