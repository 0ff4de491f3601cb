use Rattle.std.proofs.Common.{◌∙◌, ap}
use Rattle.rls_ops.specs.Rows.{stable_of}
use Rattle.rls_parts.proofs.RestoredRows.{stable_given}
use Rattle.rls_parts.proofs.tested.test_all.Goals as goal

pub test_operations-requires-clause-stable_is : goal.test_operations-requires-clause-stable_is
test_operations-requires-clause-stable_is c = c.stable.ensures.stable ∙ (ap stable_of c.in_ok-acks.ensures.acks ∙ stable_given c.args.parts.now c.requires.given)
