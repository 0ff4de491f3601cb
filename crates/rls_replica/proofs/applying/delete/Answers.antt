use Rattle.std.proofs.Common.{◌∙◌, sym, ap}
use Rattle.rls_ident.proofs.Named.{name_eq_is}
use Rattle.rls_runs.specs.Entries.{without_all}
use Rattle.rls_blocks.specs.Trees.{entries_of}
use Rattle.rls_replica.proofs.SameEpoch.{unmoved}
use Rattle.rls_rename.proofs.Kept.{greatest_kept}
use Rattle.rls_replica.proofs.applying.delete.Goals as goal

pub translate_runs-requires-clause-to : goal.translate_runs-requires-clause-to
translate_runs-requires-clause-to c = rw c.greatest-greatest.ensures.greatest (greatest_kept c.args.epochs.now.epochs.top c.args.epochs.now.epochs.nodes)

pub returns-then-same-clause-ok : goal.returns-then-same-clause-ok
returns-then-same-clause-ok c =
    let E = c.args.epochs.now.epochs in
    let same = name_eq_is c.args.epoch c.greatest-greatest.result (sym c.same.ensures.same ∙ c.if-same.true) ∙ c.greatest-greatest.ensures.greatest in
    c.in_ok-_removed.ensures.ok ∙ ap (λ xs. without_all xs (entries_of c.args.document.now.blocks)) (sym (unmoved E.nodes c.args.epoch _ c.args.targets.now same))
