use Rattle.std.proofs.Common.{◌+◌, ap, ◌∙◌, sym, arith}
use Rattle.std.specs.Prelude.{pos}
use Rattle.rls_ident.specs.Identifiers.{shifted}
use Rattle.rls_steps.specs.NameRuns.{name_at}
use Rattle.rls_steps.proofs.name_run.NameRun.labels_from.Goals as goal

pub returns-in-Some-clause-labels : goal.returns-in-Some-clause-labels
returns-in-Some-clause-labels c = λ j h.
    let r = c.args.self.now in
    let x = c.args.ident.now in
    let most = c.min-count.ensures in
    let w = c.rest_from.ensures.labels j (omega (arith, h, most)) in
    (w.0, w.1, w.2 ∙ (ap (λ y. (shifted (pos j) y, (name_at r c.in-Some.place).1 + j)) c.in-Some.ensures.found.1 ∙ ap (λ l. (shifted (pos j) x, l + j)) (sym c.label.ensures.label)))
