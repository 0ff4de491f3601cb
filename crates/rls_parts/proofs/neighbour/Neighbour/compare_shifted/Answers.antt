use Rattle.std.proofs.Common.{ap, ◌∙◌, arith}
use Rattle.rls_ident.specs.Identifiers.{ident_cmp}
use Rattle.rls_parts.proofs.Neighbours.{further, further_most, further_fits}
use Rattle.rls_parts.proofs.neighbour.Neighbour.compare_shifted.Goals as goal

pub overflow_add-self-inside : goal.overflow_add-self-inside
overflow_add-self-inside c = omega (arith, further_fits _ _ _ c.self.view_is c.args.by c.last-last.ensures.ident c.last-last.ensures.bounded c.requires.greatest)

pub compare_shifted-requires : goal.compare_shifted-requires
compare_shifted-requires c = record { greatest = further_most _ _ _ c.self.view_is c.args.by c.last-last.ensures.ident c.requires.greatest }

pub returns : goal.returns
returns c = record { order = c.compare_shifted.ensures.order ∙ ap (λ x. ident_cmp x c.args.other.now) (further _ _ _ c.self.view_is c.args.by) }
