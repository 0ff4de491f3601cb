use Rattle.std.proofs.Common.{◌-◌, ◌<◌, ◌≤◌, length}
use Rattle.std.specs.Prelude.{slice_index}
use Rattle.rls_steps.proofs.places.run_at.Given as goal

-- the number at low is at most i, and that at high isn't
abbrev pub invariant-loop-low : goal.invariant-loop-low
invariant-loop-low l = record {
  order : l.low < l.high;
  within : l.high ≤ length l.starts;
  below : slice_index l.starts l.low ≤ l.i;
  above : l.high < length l.starts → l.i < slice_index l.starts l.high;
}

abbrev pub decreases-loop-low : goal.decreases-loop-low
decreases-loop-low l = l.high - l.low
