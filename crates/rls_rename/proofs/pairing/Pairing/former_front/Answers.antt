use Rattle.std.proofs.Common.{◌<◌, ap, ◌∙◌, arith}
use Rattle.std.specs.Prelude.{pos}
use Rattle.rls_ident.specs.Identifiers.{shifted}
use Rattle.rls_rename.proofs.Fronts.{held_on, held_range}
use Rattle.rls_rename.proofs.pairing.Pairing.former_front.Goals as goal

pub invariant_of-result : goal.invariant_of-result
invariant_of-result c =
    let held = c.locate-place.result.0.now in
    let place = c.locate-place.result.1 in
    let within = c.locate-place.ensures.within in
    let some = c.requires.some in
    let first = c.in_ok-shifted.ensures.shifted ∙ ap (shifted (pos place)) c.first.ensures.first in
    let l : 0 < c.min.result = omega arith in
    record { some = l; in_range = rw first (held_range c.args.self.now.former c.args.i place held within c.locate-place.ensures.idents c.min.result c.first.ensures.run (omega arith)) }

pub returns : goal.returns
returns c =
    let held = c.locate-place.result.0.now in
    let place = c.locate-place.result.1 in
    let within = c.locate-place.ensures.within in
    let first = c.in_ok-shifted.ensures.shifted ∙ ap (shifted (pos place)) c.first.ensures.first in
    record { idents = rw first record { most = omega arith; each = held_on c.args.self.now.former c.args.i place held within c.locate-place.ensures.idents c.min.result (omega arith) } }
