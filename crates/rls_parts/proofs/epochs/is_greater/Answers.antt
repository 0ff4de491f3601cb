use Rattle.std.proofs.Common.{◌-◌, ◌+◌, ◌∙◌, ap, arith}
use Rattle.std.specs.Ordering.{is_lt}
use Rattle.rls_parts.proofs.Building.{greater_so, tree_keeps}
use Rattle.rls_parts.proofs.epochs.is_greater.Goals as goal

pub compare-requires-clause-first : goal.compare-requires-clause-first
compare-requires-clause-first c =
    let some = c.requires.some in
    tree_keeps c.args.parts.now (c.args.i + 1) (c.args.i - 1) c.args.tree.now.epochs c.get.result.now c.requires.tree_is c.get.ensures.item (omega arith)

pub compare-requires-clause-second : goal.compare-requires-clause-second
compare-requires-clause-second c = tree_keeps c.args.parts.now (c.args.i + 1) c.args.i c.args.tree.now.epochs c.args.entry.now c.requires.tree_is c.requires.entry_is (omega arith)

pub returns : goal.returns
returns c = record {
  greater = greater_so c.args.parts.now c.args.i c.args.tree.now.epochs c.get.result.now c.args.entry.now c.is_lt.result c.requires.some c.requires.tree_is c.get.ensures.item c.requires.entry_is
      (c.is_lt.ensures ∙ ap is_lt c.compare.ensures.order);
}
