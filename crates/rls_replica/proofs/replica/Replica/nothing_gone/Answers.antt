use Rattle.std.proofs.Common.{◌∙◌, refl, ap}
use Rattle.rls_seen.specs.Seen.{Seen, greatest_over}
use Rattle.rls_replica.proofs.Noting.{nothing_noted}
use Rattle.rls_replica.proofs.replica.Replica.nothing_gone.Goals as goal

pub returns : goal.returns
returns c = record { gone = nothing_noted c.args.self.now _ (c.greatest.ensures.greatest ∙ ap (λ (u : Seen). greatest_over u) c.self.view_is) refl }
