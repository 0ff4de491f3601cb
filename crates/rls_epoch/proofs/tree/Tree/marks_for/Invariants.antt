use Rattle.std.proofs.Common.{◌≡◌, ◌≤◌, suc, length, take}
use Rattle.rls_epoch.specs.Marks.{AreNamed}
use Rattle.rls_epoch.proofs.tree.Tree.marks_for.Given as goal

-- those before the index are marked, and the number is one of an epoch
abbrev pub invariant-loop-name : goal.invariant-loop-name
invariant-loop-name l = record {
  whole : length l.marks.items ≡ suc (length l.self.nodes.placed);
  number : l.number ≤ length l.self.nodes.placed;
  named : AreNamed l.self.nodes.top l.self.nodes.placed l.marks.items (take l.name-index l.marked);
}
