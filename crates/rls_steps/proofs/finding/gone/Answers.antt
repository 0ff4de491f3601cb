use Rattle.std.proofs.Common.{sym, ap, ◌∙◌}
use Rattle.rls_seen.specs.Seen.{idents_over}
use Rattle.rls_steps.specs.Courses.{below_or_none}
use Rattle.rls_steps.proofs.finding.gone.Goals as goal

pub returns-in-None : goal.returns-in-None
returns-in-None c = record { gone = ap (below_or_none (idents_over c.args.replica.now)) (sym c.in-None.is ∙ c.in_ok-newest.ensures.ident) }

pub returns-in-Some : goal.returns-in-Some
returns-in-Some c = record { gone = c.count_below.ensures.count ∙ ap (below_or_none (idents_over c.args.replica.now)) (sym c.in-Some.is ∙ c.in_ok-newest.ensures.ident) }
