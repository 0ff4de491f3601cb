use Rattle.std.proofs.Common.{◌≡◌, true, refl, sym, ap, ◌∙◌}
use Rattle.std.specs.Ordering.{is_lt}
use Rattle.rls_ident.specs.Identifiers.{ident_lt}
use Rattle.rls_steps.proofs.Intervals.{not_less_back, not_less_same}
use Rattle.rls_steps.proofs.interval.higher.Goals as goal

pub returns-then-is_lt : goal.returns-then-is_lt
returns-then-is_lt c =
    let less : ident_lt c.args.own c.args.other.now ≡ true = sym (c.is_lt.ensures ∙ ap is_lt c.compare.ensures.order) ∙ c.if-is_lt.true in
    let copy = c.in_ok-copy.ensures.copy in
    record { own = ap (λ y. ident_lt y c.args.own) copy ∙ not_less_back _ _ less; other = ap (λ y. ident_lt y c.args.other.now) copy ∙ not_less_same _ _ refl }

pub returns : goal.returns
returns c = record { own = not_less_same c.args.own c.args.own refl; other = sym (c.is_lt.ensures ∙ ap is_lt c.compare.ensures.order) ∙ c.if-is_lt.false }
