use Rattle.std.proofs.Common.{◌∙◌, ap, sym, arith}
use Rattle.std.proofs.lemmas.Int.{ints}
use Rattle.rls_ident.specs.Tuples.{offset_of}
use Rattle.rls_undo.proofs.Keeping.{with_further, with_nearer}
use Rattle.rls_undo.proofs.base.is_alike.Goals as goal

pub returns-then-from-to : goal.returns-then-from-to
returns-then-from-to c = record {
  alike = λ h.
      let from = ap offset_of c.last.ensures.last in
      let to = ap offset_of c.last-2.ensures.last in
      let far = c.distance.ensures.distance in
      with_further c.args.base.now c.args.id.now c.distance.result (omega (arith, ints)) (sym c.follows_by.ensures.follows ∙ h);
}

pub returns : goal.returns
returns c = record {
  alike = λ h.
      let from = ap offset_of c.last.ensures.last in
      let to = ap offset_of c.last-2.ensures.last in
      let far = c.distance-2.ensures.distance in
      with_nearer c.args.base.now c.args.id.now c.distance-2.result (omega (arith, ints)) (sym c.follows_by-2.ensures.follows ∙ h);
}
