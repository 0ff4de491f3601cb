use Rattle.std.proofs.Common.{◌≡◌, ◌≤◌, length, drop}
use Rattle.std.specs.Prelude.{reverse}
use Rattle.rls_undo.specs.Plans.{ranges_of}
use Rattle.rls_steps.proofs.finding.joined.Given as goal

-- the ranges of the places from here on
abbrev pub invariant-places : goal.invariant-places
invariant-places l = record {
  within : l.i ≤ length l.places.items;
  ranges : l.ranges.items ≡ reverse (ranges_of (drop l.i l.places.items));
}

abbrev pub decreases-places : goal.decreases-places
decreases-places l = l.i
