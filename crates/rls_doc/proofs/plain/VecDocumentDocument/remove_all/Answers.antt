use Rattle.std.proofs.Common.{◌≡◌, true, ap, sym, subst, ◌∙◌, rules}
use Rattle.std.specs.Prelude.{not}
use Rattle.std.proofs.lemmas.Fn.{filter_same}
use Rattle.rls_runs.specs.Runs.{is_increasing}
use Rattle.rls_runs.specs.Entries.{idents_in, has_ident, without_all}
use Rattle.rls_runs.proofs.Sorted.{Entry}
use Rattle.rls_doc.proofs.Rising.{increasing_filter}
use Rattle.rls_doc.proofs.plain.VecDocumentDocument.remove_all.Goals as goal

pub invariant_of-self : goal.invariant_of-self
invariant_of-self c =
    let kept : c.retain.new.self.items ≡ without_all c.args.targets.now c.self.inside.entries.items = filter_same _ (λ (e : Entry). not (has_ident c.args.targets.now e.0)) _ (λ x b f' k. search rules) _ _ c.retain.ensures.filtered in
    subst (λ es. is_increasing (idents_in es) ≡ true) (sym kept) (increasing_filter (λ (e : Entry). not (has_ident c.args.targets.now e.0)) c.self.inside.entries.items c.self.invariant)

pub returns-clause-ok : goal.returns-clause-ok
returns-clause-ok c =
    let kept : c.retain.new.self.items ≡ without_all c.args.targets.now c.self.inside.entries.items = filter_same _ (λ (e : Entry). not (has_ident c.args.targets.now e.0)) _ (λ x b f' k. search rules) _ _ c.retain.ensures.filtered in
    kept ∙ ap (without_all c.args.targets.now) c.self.view_is
