use Rattle.std.proofs.Common.{◌+◌, ◌∷◌, [], ◌++◌, sym, ap, ◌∙◌, append_assoc}
use Rattle.rls_steps.specs.Marks.{numbers_from}
use Rattle.rls_steps.proofs.Giving.{numbers_snoc}
use Rattle.rls_steps.proofs.labelling.push_rising.Goals as goal

pub numbers-preserved : goal.numbers-preserved
numbers-preserved c =
    let old = c.args.numbers.now.items in
    let first = c.args.first in
    let i = c.numbers.i in
    c.in_ok-push.ensures.items
    ∙ (ap (λ ns. ns ++ (first + i) ∷ []) c.numbers.invariant ∙ (append_assoc old (numbers_from first i) ((first + i) ∷ []) ∙ ap (λ ns. old ++ ns) (sym (numbers_snoc first i))))
