use Rattle.std.proofs.Common.{sym, ap, ◌∙◌}
use Rattle.rls_runs.specs.Runs.{run_idents}
use Rattle.rls_steps.specs.Marks.{numbers_from}
use Rattle.rls_steps.specs.Labelled.{label_all}
use Rattle.rls_steps.specs.Recorded.{held_by}
use Rattle.rls_steps.proofs.GivenRuns.{all_same}
use Rattle.rls_steps.proofs.labelling.label_first.Goals as goal

pub returns-in-Some-clause-given : goal.returns-in-Some-clause-given
returns-in-Some-clause-given c = λ s.
    let h = held_by s c.args.next.now c.args.names.now in
    let p = c.in-Some.labels in
    sym (all_same h (run_idents c.in_ok-copy.field-0 p.1) (numbers_from p.0 p.1) c.in-Some.ensures.labels) ∙ ap (λ x. label_all h (run_idents x p.1)) (c.in_ok-copy.ensures.copy ∙ c.first.ensures.first)
