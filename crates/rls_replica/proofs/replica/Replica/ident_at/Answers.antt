use Rattle.std.proofs.Common.{◌∙◌, sym, ap}
use Rattle.std.specs.Prelude.{slice_get}
use Rattle.rls_seen.specs.Seen.{idents_over}
use Rattle.rls_seen.proofs.Editing.{idents_alike}
use Rattle.rls_replica.proofs.replica.Replica.ident_at.Goals as goal

pub returns-clause-stands : goal.returns-clause-stands
returns-clause-stands c = λ t h. ap (λ xs. slice_get xs c.args.i) (sym (ap idents_over c.self.view_is ∙ idents_alike c.args.self.now t h)) ∙ c.in_ok-id.ensures.ident
