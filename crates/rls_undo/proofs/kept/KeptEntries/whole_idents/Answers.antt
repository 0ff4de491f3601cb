use Rattle.std.proofs.Common.{◌∙◌, ap, sym, subst, List}
use Rattle.rls_ident.proofs.Members.{some_is}
use Rattle.rls_undo.specs.declared.base.Base.{Base}
use Rattle.rls_undo.specs.Keeping.{entry_of}
use Rattle.rls_undo.specs.UndoLaws.{HasIdents}
use Rattle.rls_undo.proofs.Keeping.{got}
use Rattle.rls_undo.proofs.kept.KeptEntries.whole_idents.Goals as goal

pub whole_idents-requires : goal.whole_idents-requires
whole_idents-requires c = record {
  bases = rw c.deref.ensures.value (got c.self.inside.bases.items c.self.inside.entries.items c.args.self.now c.args.at c.index.result.now c.self.view_is c.self.invariant c.requires.at c.index.ensures).1;
}

pub returns : goal.returns
returns c = record {
  idents = λ entry h.
      let g = (got c.self.inside.bases.items c.self.inside.entries.items c.args.self.now c.args.at c.index.result.now c.self.view_is c.self.invariant c.requires.at c.index.ensures).2 in
      subst HasIdents (ap (λ (bs : List Base). entry_of bs c.index.result.now) c.deref.ensures.value ∙ some_is _ entry (sym g ∙ h)) c.whole_idents.ensures.idents;
}
