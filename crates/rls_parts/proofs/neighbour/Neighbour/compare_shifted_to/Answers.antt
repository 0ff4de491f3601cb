use Rattle.std.proofs.Common.{◌≡◌, sym, ap, ◌∙◌, arith}
use Rattle.std.specs.Prelude.{pos}
use Rattle.rls_ident.specs.Identifiers.{ident_cmp, shifted}
use Rattle.rls_ident.proofs.Shifted.{shifted_none}
use Rattle.rls_parts.proofs.neighbour.Neighbour.compare_shifted_to.Goals as goal

pub returns-then-other-eq0 : goal.returns-then-other-eq0
returns-then-other-eq0 c =
    let first = c.other.inside.first.now in
    let z : c.other.inside.by ≡ 0 = omega (arith, c.if-other-eq0.true) in
    record { order = c.compare_shifted.ensures.order ∙ ap (ident_cmp (shifted (pos c.args.by) c.args.self.now)) (sym (ap (λ k. shifted (pos k) first) z ∙ shifted_none first) ∙ c.other.view_is) }
