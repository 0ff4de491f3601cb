use Rattle.std.proofs.Common.{◌≡◌, ◌≤◌, ◌++◌, length, take, drop}
use Rattle.std.specs.Prelude.{reverse, zip}
use Rattle.rls_steps.specs.NameRuns.{names_in}
use Rattle.rls_steps.proofs.inserting.name_all.Given as goal

-- those from a place on are named, or wait
abbrev pub invariant-names : goal.invariant-names
invariant-names l = record {
  ids : l.i ≤ length l.ids;
  labels : l.i ≤ length l.labels;
  named : reverse (l.names ++ names_in l.last) ≡ drop l.i (zip l.ids l.labels) ++ reverse l.fn.names;
  front : take (length l.fn.names) l.names ≡ l.fn.names;
}

abbrev pub decreases-names : goal.decreases-names
decreases-names l = l.i
