use Rattle.std.proofs.Common.{◌≡◌, ap, ◌∙◌}
use Rattle.rls_rename.specs.Ways.{renamed}
use Rattle.rls_rename.proofs.Stretches.{goes_first}
use Rattle.rls_rename.proofs.renaming.Renaming.renamed_ident.Goals as goal

pub returns : goal.returns
returns c =
    let z = c.in_ok-first.field-0 in
    let run = c.into_run-run.result in
    let F = renamed c.args.way c.args.self.now in
    let same : run.0 ≡ c.args.id.now = ap (λ r. r.0) c.into_run-run.ensures.run ∙ (c.one.ensures.first ∙ c.in_ok-copy.ensures.copy) in
    record { renamed = goes_first F run.0 run.1 z.first z.len z.some c.in_ok-first.ensures.renamed ∙ ap F same }
