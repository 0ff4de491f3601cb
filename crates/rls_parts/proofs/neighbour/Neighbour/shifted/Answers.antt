use Rattle.std.proofs.Common.{◌∙◌, arith}
use Rattle.std.proofs.lemmas.Result.{IfOk-weaker}
use Rattle.rls_parts.proofs.Neighbours.{further, further_most, further_fits}
use Rattle.rls_parts.proofs.neighbour.Neighbour.shifted.Goals as goal

pub overflow_add-self-inside : goal.overflow_add-self-inside
overflow_add-self-inside c = omega (arith, further_fits _ _ _ c.self.view_is c.args.by c.last-last.ensures.ident c.last-last.ensures.bounded c.requires.greatest)

pub shifted-requires : goal.shifted-requires
shifted-requires c = record { greatest = further_most _ _ _ c.self.view_is c.args.by c.last-last.ensures.ident c.requires.greatest }

pub returns : goal.returns
returns c = record { shifted = IfOk-weaker c.shifted.result _ _ (λ x e. e ∙ further _ _ _ c.self.view_is c.args.by) c.shifted.ensures.shifted }
