use Rattle.std.proofs.Common.{◌≡◌, ◌++◌, ap, ◌∙◌, sym}
use Rattle.rls_steps.specs.Labelled.{Names}
use Rattle.rls_steps.proofs.Stretches.{alone}
use Rattle.rls_steps.proofs.names.Names.push_run.Goals as goal

pub returns-then-len-eq1-clause-names : goal.returns-then-len-eq1-clause-names
returns-then-len-eq1-clause-names c =
    let r = c.args.run in
    let one : r.len ≡ 1 = sym c.len.ensures.len ∙ c.if-len-eq1.true in
    c.in_ok-push.ensures.names ∙ ap (λ (ns : Names). c.args.self.now ++ ns) (sym (alone r c.into_first.result c.label-label.result one c.into_first.ensures.first c.label-label.ensures.label))
