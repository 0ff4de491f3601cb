use Rattle.std.proofs.Common.{◌≤◌, length, drop}
use Rattle.rls_parts.specs.Places.{AreFirst}
use Rattle.rls_parts.proofs.places.Places.of.Given as goal

-- those from this place on are noted
abbrev pub invariant-loop-place : goal.invariant-loop-place
invariant-loop-place l = record {
  noted : AreFirst l.first.entries l.place (drop l.place l.names);
  within : l.place ≤ length l.names;
}

abbrev pub decreases-loop-place : goal.decreases-loop-place
decreases-loop-place l = l.place
