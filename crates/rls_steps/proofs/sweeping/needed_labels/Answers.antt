use Rattle.std.proofs.Common.{◌≡◌, ◌++◌, List, ℕ, ap, ◌∙◌}
use Rattle.rls_steps.specs.Sweeping.{step_labels, is_needed}
use Rattle.rls_steps.proofs.Swept.{needed_sorted}
use Rattle.rls_steps.proofs.SweptRuns.{needed_dedup, rising_dedup}
use Rattle.rls_steps.proofs.sweeping.needed_labels.Goals as goal

pub returns-clause-same : goal.returns-clause-same
returns-clause-same c = λ l.
    let past = step_labels c.args.past.now in
    let future = step_labels c.args.future.now in
    let first : c.push_steps.new.labels.items ≡ past = c.in_ok-push_steps.ensures.labels ∙ ap (λ (ls : List ℕ). ls ++ past) c.new-labels.ensures.items in
    let all : c.push_steps-2.new.labels.items ≡ past ++ future = c.in_ok-push_steps-2.ensures.labels ∙ ap (λ (ls : List ℕ). ls ++ future) first in
    needed_dedup c.sort_unstable.new.self.items c.dedup.new.self.items l c.dedup.ensures.filtered
    ∙ (needed_sorted c.push_steps-2.new.labels.items c.sort_unstable.new.self.items l c.sort_unstable.ensures.permutation ∙ ap (λ (ls : List ℕ). is_needed ls l) all)

pub returns-clause-rising : goal.returns-clause-rising
returns-clause-rising c = rising_dedup c.sort_unstable.new.self.items c.dedup.new.self.items c.sort_unstable.ensures.sorted c.dedup.ensures.filtered
