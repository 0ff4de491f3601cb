use Rattle.std.proofs.Common.{◌∙◌, ◌+◌, ◌≤◌, ap, subst, length, arith}
use Rattle.rls_undo.specs.declared.kept.Kept.{Kept}
use Rattle.std.specs.Prelude.{◌≤ℤ◌}
use Rattle.rls_ident.specs.Identifiers.{least_offset, greatest_offset}
use Rattle.rls_undo.specs.Keeping.{entry_of, bases_for, with_offset, IsInRange}
use Rattle.rls_undo.proofs.Keeping.{at_index, cast_run, cast_same, made_inserted, made_removed}
use Rattle.rls_undo.proofs.kept.entry_of.Goals as goal

pub returns-in_ok-ids-in-Inserted : goal.returns-in_ok-ids-in-Inserted
returns-in_ok-ids-in-Inserted c = record {
  entry =
      let l : c.in-Inserted.base + 1 ≤ length c.args.bases.now = subst (λ (k : Kept). bases_for k ≤ length c.args.bases.now) c.in-Inserted.is c.requires.bases in
      made_inserted (entry_of c.args.bases.now c.args.kept.now) _ c.index-bases-base.result c.in-Inserted.offset c.in-Inserted.len c.in_ok-ids-in-Inserted.ids c.in_ok-run-in-Inserted.run'
      (ap (entry_of c.args.bases.now) c.in-Inserted.is) (at_index c.args.bases.now c.in-Inserted.base c.index-bases-base.result (omega (arith, l)) c.index-bases-base.is)
      c.in_ok-ids-in-Inserted.ensures.idents (c.in_ok-run-in-Inserted.ensures.run ∙ ap (λ o. (with_offset o c.index-bases-base.result.id, c.in-Inserted.len)) (cast_run c.in-Inserted.offset c.in-Inserted.len (subst IsInRange c.in-Inserted.is c.requires.range)));
}

pub returns-in_ok-text-in-Removed : goal.returns-in_ok-text-in-Removed
returns-in_ok-text-in-Removed c = record {
  entry =
      let l : c.in-Removed.base + 1 ≤ length c.args.bases.now = subst (λ (k : Kept). bases_for k ≤ length c.args.bases.now) c.in-Removed.is c.requires.bases in
      let r : (least_offset ≤ℤ c.in-Removed.offset) × (c.in-Removed.offset ≤ℤ greatest_offset) = subst IsInRange c.in-Removed.is c.requires.range in
      made_removed (entry_of c.args.bases.now c.args.kept.now) _ c.index-bases-base-in-Removed.result c.in-Removed.offset c.in-Removed.text.value c.in_ok-text-in-Removed.text c.in_ok-first-in-Removed.first
      (ap (entry_of c.args.bases.now) c.in-Removed.is) (at_index c.args.bases.now c.in-Removed.base c.index-bases-base-in-Removed.result (omega (arith, l)) c.index-bases-base-in-Removed.is)
      (c.in_ok-first-in-Removed.ensures.ident ∙ ap (λ o. with_offset o c.index-bases-base-in-Removed.result.id) (cast_same c.in-Removed.offset r.0 r.1)) (c.in_ok-text-in-Removed.ensures.copy ∙ c.deref.ensures);
}
