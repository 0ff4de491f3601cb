use Rattle.std.proofs.Common.{◌≡◌, ◌≤◌, take, drop, length}
use Rattle.rls_epoch.specs.Marks.{kept_places}
use Rattle.rls_epoch.proofs.keeping.keep_places.Given as goal

-- those in front of the count are kept, and those from the index on stand as before
abbrev pub invariant-loop-i : goal.invariant-loop-i
invariant-loop-i l = record {
  fewer : l.count ≤ l.i;
  same : length l.places.items ≡ length l.fn.places.items;
  front : take l.count l.places.items ≡ kept_places l.marks (take l.i l.fn.places.items);
  rest : drop l.i l.places.items ≡ drop l.i l.fn.places.items;
}
