use Rattle.std.proofs.Common.{length}
use Rattle.test_undo.proofs.tests.changing.later.Given as goal

abbrev pub decreases-loop-op : goal.decreases-loop-op
decreases-loop-op l = length l.rest
