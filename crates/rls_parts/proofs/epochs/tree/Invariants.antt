use Rattle.std.proofs.Common.{◌≡◌, ◌<◌, take, drop, []}
use Rattle.rls_parts.specs.Rules.{epoch_fault}
use Rattle.rls_parts.specs.Building.{IsTreeBefore}
use Rattle.rls_parts.proofs.epochs.tree.Given as goal

-- the entries so far pass, and make the tree
abbrev pub invariant-loop-i : goal.invariant-loop-i
invariant-loop-i l = record {
  some : 0 < l.i;
  tree : IsTreeBefore l.parts l.i l.epochs.epochs;
  pass : epoch_fault l.parts (take l.i l.parts.epochs) (drop l.i l.parts.epochs) ≡ epoch_fault l.parts [] l.parts.epochs;
}
