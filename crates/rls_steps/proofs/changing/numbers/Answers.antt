use Rattle.std.proofs.Common.{◌+◌, ◌∷◌, [], ◌++◌, sym, ap, ◌∙◌}
use Rattle.rls_steps.proofs.Giving.{numbers_snoc}
use Rattle.rls_steps.proofs.changing.numbers.Goals as goal

pub numbers-preserved : goal.numbers-preserved
numbers-preserved c =
    rw c.in_ok-push.ensures.items (ap (λ ns. ns ++ (c.args.first + c.numbers.i) ∷ []) c.numbers.invariant ∙ sym (numbers_snoc c.args.first c.numbers.i))
