use Rattle.std.proofs.Common.{◌≡◌, sym, ◌∙◌, subst}
use Rattle.std.specs.Prelude.{pos}
use Rattle.rls_ident.specs.Identifiers.{shifted}
use Rattle.rls_ident.proofs.Ends.{eq_same}
use Rattle.rls_steps.specs.NameRuns.{Stretch}
use Rattle.rls_steps.proofs.name_run.NameRun.goes_down.Goals as goal

pub returns-then-self-label-clause-ident : goal.returns-then-self-label-clause-ident
returns-then-self-label-clause-ident c =
    λ t. subst (λ (r : Stretch). r.first ≡ shifted (pos r.len) c.args.ident.now) c.self.view_is (eq_same c.self.inside.first (shifted (pos c.self.inside.len) c.args.ident.now) (sym c.follows_by.ensures.follows ∙ t))
