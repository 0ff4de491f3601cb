use Rattle.std.proofs.Common.{◌∙◌, [], ◌∷◌, ◌++◌, map, take, ap, sym}
use Rattle.rls_undo.specs.Undoing.{settled_over}
use Rattle.rls_undo.proofs.Keeping.{map_taken}
use Rattle.rls_undo.proofs.translating.settled.Goals as goal

pub loop-i-preserved : goal.loop-i-preserved
loop-i-preserved c = record {
  there =
      let f = settled_over c.args.replica.now in
      let es = c.args.entries.now in
      c.in_ok-push.ensures.ok
      ∙ (ap (λ xs. xs ++ c.in_ok-settled_entry.field-0 ∷ []) c.loop-i.invariant.there
      ∙ (ap (λ y. map f (take c.loop-i.i es) ++ y ∷ []) c.in_ok-settled_entry.ensures.settled ∙ sym (map_taken f es c.loop-i.i c.in_ok-entry.entry c.in_ok-entry.ensures.entry)));
  known = c.in_ok-known.ensures.known;
}
