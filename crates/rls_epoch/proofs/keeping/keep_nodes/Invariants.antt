use Rattle.std.proofs.Common.{◌≡◌, ◌≤◌, take, drop, length}
use Rattle.rls_epoch.specs.Marks.{kept_placed}
use Rattle.rls_epoch.proofs.keeping.keep_nodes.Given as goal

-- those in front of the count are kept, and those from the index on stand as before
abbrev pub invariant-loop-i : goal.invariant-loop-i
invariant-loop-i l = record {
  fewer : l.count ≤ l.i;
  same : length l.nodes.items ≡ length l.fn.nodes.items;
  front : take l.count l.nodes.items ≡ kept_placed l.marks (drop 1 l.marks) (take l.i l.fn.nodes.items);
  rest : drop l.i l.nodes.items ≡ drop l.i l.fn.nodes.items;
}
