use Rattle.std.proofs.Common.{◌≡◌, ◌++◌, length, map}
use Rattle.std.specs.Vec.Iter.{into_iter_items, into_iter_len}
use Rattle.rls_parts.specs.Given.{HaveTexts}
use Rattle.rls_replica.proofs.GivenPieces.{piece_of}
use Rattle.rls_replica.proofs.restoring.document.Given as goal

-- those so far, and those to come
abbrev pub invariant-loop-entry : goal.invariant-loop-entry
invariant-loop-entry l = record {
  blocks : l.blocks.items ++ map piece_of (into_iter_items l.entry-iterator) ≡ map piece_of l.fn.runs.items;
  texts : HaveTexts (into_iter_items l.entry-iterator);
  count : into_iter_len l.entry-iterator ≡ length (into_iter_items l.entry-iterator);
}
