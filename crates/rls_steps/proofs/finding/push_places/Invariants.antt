use Rattle.std.proofs.Common.{◌≡◌, ◌++◌}
use Rattle.std.specs.Prelude.{reverse}
use Rattle.rls_seen.specs.Seen.{idents_over}
use Rattle.rls_steps.specs.Index.{named_places, rest_places, names_from, AreElsewhere, IsCursor, cursor_rank}
use Rattle.rls_steps.proofs.finding.push_places.Given as goal

-- the places before those of the names that are left, none of which stands at the place that was found
abbrev pub invariant-names : goal.invariant-names
invariant-names l = record {
  cursor : IsCursor (reverse l.names) l.label l.cursor;
  places : l.places.items ++ rest_places (idents_over l.replica) l.label (reverse l.names) l.cursor ≡ l.fn.places.items ++ named_places (idents_over l.replica) l.label (reverse l.names);
  elsewhere : AreElsewhere (idents_over l.replica) (names_from (reverse l.names) l.cursor) l.found;
}

abbrev pub decreases-names : goal.decreases-names
decreases-names l = cursor_rank l.cursor
