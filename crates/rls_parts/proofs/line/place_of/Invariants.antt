use Rattle.std.proofs.Common.{◌-◌, ◌≤◌, length}
use Rattle.rls_parts.specs.Reaches.{place_in}
use Rattle.rls_parts.proofs.line.place_of.Given as goal

-- the place lies between the two
abbrev pub invariant-loop-low : goal.invariant-loop-low
invariant-loop-low l = record {
  above : l.low ≤ place_in l.reaches l.s0;
  below : place_in l.reaches l.s0 ≤ l.high;
  within : l.high ≤ length l.reaches;
}

abbrev pub decreases-loop-low : goal.decreases-loop-low
decreases-loop-low l = l.high - l.low
