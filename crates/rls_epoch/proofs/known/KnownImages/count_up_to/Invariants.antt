use Rattle.std.proofs.Common.{◌≤◌, ◌-◌, length}
use Rattle.rls_epoch.proofs.known.KnownImages.count_up_to.Given as goal

-- the ends are in order and within
abbrev pub invariant-loop-low : goal.invariant-loop-low
invariant-loop-low l = record {
  order : l.low ≤ l.high;
  in_range : l.high ≤ length l.self.known.items;
}

abbrev pub decreases-loop-low : goal.decreases-loop-low
decreases-loop-low l = l.high - l.low
