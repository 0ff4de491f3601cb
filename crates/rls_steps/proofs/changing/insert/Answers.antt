use Rattle.std.proofs.Common.{List, ℕ, ◌++◌, ap, ◌∙◌, arith}
use Rattle.std.specs.Prelude.{reverse, zip}
use Rattle.rls_seen.specs.Edits.{made_over}
use Rattle.rls_steps.specs.Labelled.{inserted_by}
use Rattle.rls_steps.proofs.changing.insert.Goals as goal

pub returns-in-Ok-clause-named : goal.returns-in-Ok-clause-named
returns-in-Ok-clause-named c =
    c.in-Ok.ensures.named ∙ ap (λ (ls : List ℕ). zip (inserted_by (made_over c.args.replica.now c.args.edit.now).body) ls ++ reverse c.args.names.now) (c.from_vec-labels.ensures.labels ∙ c.in_ok-numbers.ensures.numbers)

pub returns-in-Ok-clause-given : goal.returns-in-Ok-clause-given
returns-in-Ok-clause-given c = omega (arith, c.in-Some.ensures)
