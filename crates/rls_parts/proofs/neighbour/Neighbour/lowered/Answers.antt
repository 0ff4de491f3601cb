use Rattle.std.proofs.Common.{◌∙◌, arith}
use Rattle.std.proofs.lemmas.Result.{IfOk-weaker}
use Rattle.rls_parts.proofs.Neighbours.{nearer, ahead, ahead_least}
use Rattle.rls_parts.proofs.neighbour.Neighbour.lowered.Goals as goal

pub lowered-requires : goal.lowered-requires
lowered-requires c =
    record { least = ahead_least c.self.inside.first.now c.args.self.now c.self.inside.by c.self.view_is c.args.by (omega (arith, c.if-by-self.false)) c.last-last.ensures.ident c.requires.least }

pub returns-then-by-self : goal.returns-then-by-self
returns-then-by-self c =
    let f = nearer c.self.inside.first.now c.args.self.now c.self.inside.by c.self.view_is c.args.by (omega (arith, c.if-by-self.true)) in
    record { lowered = IfOk-weaker c.shifted.result _ _ (λ x e. e ∙ f) c.shifted.ensures.shifted }

pub returns-else-by-self : goal.returns-else-by-self
returns-else-by-self c =
    let f = ahead c.self.inside.first.now c.args.self.now c.self.inside.by c.self.view_is c.args.by (omega (arith, c.if-by-self.false)) in
    record { lowered = IfOk-weaker c.lowered.result _ _ (λ x e. e ∙ f) c.lowered.ensures.lowered }
