use Rattle.std.proofs.Common.{sym, ap, ◌∙◌}
use Rattle.std.specs.Ordering.{is_eq}
use Rattle.rls_steps.specs.Sweeping.{is_that}
use Rattle.rls_steps.proofs.sweeping.is_newest.Goals as goal

pub returns-in-None : goal.returns-in-None
returns-in-None c = record { newest = ap (λ o. is_that o c.args.ident.now) (sym c.in-None.is ∙ c.in_ok-newest.ensures.ident) }

pub returns-in-Some : goal.returns-in-Some
returns-in-Some c = record { newest = c.is_eq.ensures ∙ (ap is_eq c.compare.ensures.order ∙ ap (λ o. is_that o c.args.ident.now) (sym c.in-Some.is ∙ c.in_ok-newest.ensures.ident)) }
