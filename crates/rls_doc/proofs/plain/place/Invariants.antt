use Rattle.std.proofs.Common.{◌-◌, ◌≡◌, ◌≤◌, length, drop, slice_get, Some}
use Rattle.std.specs.declared.cmp.Ordering.TheVariants.{Greater}
use Rattle.rls_ident.specs.Identifiers.{ident_cmp}
use Rattle.rls_runs.specs.Runs.{place_from, place_of}
use Rattle.rls_runs.specs.Entries.{idents_in}
use Rattle.rls_runs.proofs.Sorted.{Entry}
use Rattle.rls_doc.proofs.plain.place.Given as goal

abbrev pub invariant-loop-low : goal.invariant-loop-low
invariant-loop-low l = record {
  order : l.low ≤ l.high;
  within : l.high ≤ length l.entries;
  rest : place_from l.low l.id (idents_in (drop l.low l.entries)) ≡ place_of l.id (idents_in l.entries);
  above : (e : Entry) → slice_get l.entries l.high ≡ Some e → ident_cmp e.0 l.id ≡ Greater;
}

abbrev pub decreases-loop-low : goal.decreases-loop-low
decreases-loop-low l = l.high - l.low
