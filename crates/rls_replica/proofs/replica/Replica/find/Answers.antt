use Rattle.std.proofs.Common.{◌∙◌, ap}
use Rattle.rls_runs.specs.Runs.{place_of}
use Rattle.rls_seen.specs.Seen.{idents_over}
use Rattle.rls_seen.proofs.Editing.{idents_alike}
use Rattle.rls_replica.proofs.replica.Replica.find.Goals as goal

pub returns-clause-stands : goal.returns-clause-stands
returns-clause-stands c = λ t h. c.find.ensures.place ∙ ap (λ xs. place_of c.args.id.now xs) (ap idents_over c.self.view_is ∙ idents_alike c.args.self.now t h)
