use Rattle.std.proofs.Common.{◌∙◌, map, sym, ap, subst, inl, inr, ⊎_elim}
use Rattle.rls_ident.specs.Lists.{IsIn}
use Rattle.rls_rename.specs.Tree.{translate}
use Rattle.rls_rename.proofs.Kept.{greatest_kept}
use Rattle.rls_replica.proofs.known.without.Goals as goal

pub translate_runs-requires-clause-to : goal.translate_runs-requires-clause-to
translate_runs-requires-clause-to c = rw c.greatest.ensures.greatest (greatest_kept c.args.epochs.now.epochs.top c.args.epochs.now.epochs.nodes)

pub returns-in-Ok-add-clause-lost : goal.returns-in-Ok-add-clause-lost
returns-in-Ok-add-clause-lost c = λ x p.
    let same = c.in-Ok.ensures.translated ∙ ap (λ f. map (translate c.args.epochs.now.epochs.nodes c.args.epoch f) c.args.targets.now) c.greatest.ensures.greatest in
    c.in-Ok-add.ensures.ok x (⊎_elim inl (λ q. inr (subst (IsIn x) (sym same) q)) p)
