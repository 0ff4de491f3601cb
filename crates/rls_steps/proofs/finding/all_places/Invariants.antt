use Rattle.std.proofs.Common.{◌≡◌, ◌-◌, ◌≤◌, ◌++◌, length, drop}
use Rattle.std.specs.Prelude.{reverse}
use Rattle.rls_seen.specs.Seen.{idents_over}
use Rattle.rls_steps.specs.Index.{all_places}
use Rattle.rls_steps.proofs.finding.all_places.Given as goal

-- the places before those of the labels that are left
abbrev pub invariant-labels : goal.invariant-labels
invariant-labels l = record {
  within : l.i ≤ length l.labels;
  places : l.places.items ++ all_places (idents_over l.replica) (drop l.i l.labels) (reverse l.names) ≡ all_places (idents_over l.replica) l.labels (reverse l.names);
}

abbrev pub decreases-labels : goal.decreases-labels
decreases-labels l = length l.labels - l.i
