use Rattle.std.proofs.Common.{◌-◌, ◌<◌}
use Rattle.rls_stages.proofs.lines.cluster_at.Given as goal

abbrev pub invariant-loop-window : goal.invariant-loop-window
invariant-loop-window l = 0 < l.reach

abbrev pub decreases-loop-window : goal.decreases-loop-window
decreases-loop-window l = l.at - l.reach
