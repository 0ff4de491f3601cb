use Rattle.std.proofs.Common.{ap, ◌∙◌}
use Rattle.std.specs.Prelude.{pos}
use Rattle.rls_ident.specs.Tuples.{at_spot}
use Rattle.rls_ident.specs.Identifiers.{ident_cmp}
use Rattle.rls_ident.proofs.Ends.{shifted_of_ending}
use Rattle.rls_ident.proofs.ident.Ident.compare_shifted.Goals as goal

pub returns : goal.returns
returns c =
    let s = c.self.inside in
    let e = shifted_of_ending (pos c.args.by) s.front.items c.deref.result.now s.last c.raised.result c.args.self.now c.self.view_is c.deref.ensures.value (ap at_spot c.raised.ensures.spot) in
    record { order = c.compare_ending.ensures.order ∙ ap (λ x. ident_cmp x c.args.other.now) e }
