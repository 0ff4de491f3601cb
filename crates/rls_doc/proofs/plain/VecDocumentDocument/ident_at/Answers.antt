use Rattle.std.proofs.Common.{◌<◌, length, slice_get, Some, sym, ap, ◌∙◌, subst}
use Rattle.std.proofs.lemmas.Result.{IfOk-weaker}
use Rattle.rls_runs.specs.Entries.{idents_in}
use Rattle.rls_doc.proofs.Steps.{entry_at, ident_there}
use Rattle.rls_doc.proofs.plain.VecDocumentDocument.ident_at.Goals as goal

pub returns : goal.returns
returns c =
    let es = c.self.inside.entries.items in
    let g = entry_at es c.args.i c.index.result.now (subst (λ xs. c.args.i < length xs) (sym c.self.view_is) c.requires.place) c.index.ensures in
    record { ident = IfOk-weaker c.copy.result _ _ (λ x e. ap (λ xs. slice_get (idents_in xs) c.args.i) (sym c.self.view_is) ∙ ident_there es c.args.i c.index.result.now g ∙ ap (λ z. Some z) (sym e)) c.copy.ensures.copy }
