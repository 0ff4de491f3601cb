use Rattle.std.proofs.Common.{◌≡◌, sym, ◌∙◌, subst}
use Rattle.std.specs.Prelude.{pos}
use Rattle.rls_ident.specs.Identifiers.{shifted}
use Rattle.rls_ident.proofs.Ends.{eq_same}
use Rattle.rls_steps.specs.NameRuns.{Stretch}
use Rattle.rls_steps.proofs.name_run.NameRun.goes_up.Goals as goal

pub returns-then-label-self-clause-ident : goal.returns-then-label-self-clause-ident
returns-then-label-self-clause-ident c =
    λ t. subst (λ (r : Stretch). c.args.ident.now ≡ shifted (pos r.len) r.first) c.self.view_is (eq_same c.args.ident.now (shifted (pos c.self.inside.len) c.self.inside.first) (sym c.follows_by.ensures.follows ∙ t))
