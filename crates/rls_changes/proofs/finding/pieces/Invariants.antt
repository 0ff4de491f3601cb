use Rattle.std.proofs.Common.{◌≡◌, ◌-◌, ◌≤◌, [], length, take}
use Rattle.std.specs.Prelude.{zip}
use Rattle.rls_seen.specs.Seen.{idents_over}
use Rattle.rls_changes.specs.Changes.{puts, with_changes}
use Rattle.rls_changes.proofs.finding.pieces.Given as goal

-- all in front are put in
abbrev pub invariant-pieces : goal.invariant-pieces
invariant-pieces l = record {
  within : l.at ≤ length l.ids;
  so_far : l.changes.items ≡ with_changes [] (puts 0 (idents_over l.replica) (take l.at (zip l.ids l.text)));
}

abbrev pub decreases-pieces : goal.decreases-pieces
decreases-pieces l = length l.ids - l.at
