use Rattle.std.proofs.Common.{◌≡◌, ◌-◌, ap, ◌∙◌, arith}
use Rattle.std.specs.Prelude.{Some}
use Rattle.rls_ident.proofs.Members.{eq_is}
use Rattle.rls_steps.proofs.Intervals.{place_above}
use Rattle.rls_steps.proofs.finding.is_alone.Goals as goal

pub returns-then-end-from : goal.returns-then-end-from
returns-then-end-from c = record {
  alone = λ t x k b e.
      let low = place_above _ _ x k c.sane.ensures.sane.idents.1 b.0 e in
      absurd (omega (arith, low, c.count_below-from.ensures.count, c.up_to-end.ensures.up_to x k b.1 e, c.if-end-from.true));
}

pub returns-then-at-from : goal.returns-then-at-from
returns-then-at-from c = record {
  alone = λ t x k b e.
      let low = place_above _ _ x k c.sane.ensures.sane.idents.1 b.0 e in
      let one = eq_is (c.up_to-end.result - c.count_below-from.result) 1 t in
      let same : c.in-Some.at ≡ k = omega (arith, low, c.count_below-from.ensures.count, c.up_to-end.ensures.up_to x k b.1 e, one, c.if-at-from.true) in
      c.in-Some.is ∙ ap Some same;
}
