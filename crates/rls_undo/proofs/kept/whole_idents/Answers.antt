use Rattle.std.proofs.Common.{◌∙◌, ◌+◌, ◌≤◌, ap, sym, subst, length, arith}
use Rattle.rls_ident.specs.Identifiers.{IsIdent}
use Rattle.rls_undo.specs.declared.base.Base.{Base}
use Rattle.rls_undo.specs.declared.entry.Entry.TheVariants.{Inserted}
use Rattle.rls_undo.specs.declared.kept.Kept.{Kept}
use Rattle.rls_undo.specs.declared.kept.Scattered.{Scattered}
use Rattle.rls_undo.specs.Keeping.{entry_of, bases_for}
use Rattle.rls_undo.proofs.Keeping.{at_index, whole_inserted, whole_removed, whole_list}
use Rattle.rls_undo.proofs.kept.whole_idents.Goals as goal

pub returns-in-Scattered : goal.returns-in-Scattered
returns-in-Scattered c = record {
  idents = whole_list (entry_of c.args.bases.now c.args.kept.now) c.deref.result.now.epoch c.deref.result.now.ids (ap (entry_of c.args.bases.now) c.in-Scattered.is ∙ ap (λ (s : Scattered). Inserted s.epoch s.ids) (sym c.deref.ensures)) c.total-total.ensures.idents;
}

pub returns-in-Inserted : goal.returns-in-Inserted
returns-in-Inserted c = record {
  idents =
      let l : c.in-Inserted.base + 1 ≤ length c.args.bases.now = subst (λ (k : Kept). bases_for k ≤ length c.args.bases.now) c.in-Inserted.is c.requires.bases in
      whole_inserted (entry_of c.args.bases.now c.args.kept.now) _ c.index-bases-base.result _ _
      (ap (entry_of c.args.bases.now) c.in-Inserted.is) (at_index c.args.bases.now c.in-Inserted.base c.index-bases-base.result (omega (arith, l)) c.index-bases-base.is)
      (subst (λ (b : Base). IsIdent b.id) (sym c.index-bases-base.is) c.len-len.ensures.ident);
}

pub returns-in-Removed : goal.returns-in-Removed
returns-in-Removed c = record {
  idents =
      let l : c.in-Removed.base + 1 ≤ length c.args.bases.now = subst (λ (k : Kept). bases_for k ≤ length c.args.bases.now) c.in-Removed.is c.requires.bases in
      whole_removed (entry_of c.args.bases.now c.args.kept.now) _ c.index-bases-base-in-Removed.result _ _
      (ap (entry_of c.args.bases.now) c.in-Removed.is) (at_index c.args.bases.now c.in-Removed.base c.index-bases-base-in-Removed.result (omega (arith, l)) c.index-bases-base-in-Removed.is)
      (subst (λ (b : Base). IsIdent b.id) (sym c.index-bases-base-in-Removed.is) c.len-len-in-Removed.ensures.ident);
}
