use Rattle.std.proofs.Common.{◌≡◌, ◌++◌, take}
use Rattle.rls_steps.specs.Sweeping.{step_labels}
use Rattle.rls_steps.proofs.sweeping.push_steps.Given as goal

-- the labels of the first ones
abbrev pub invariant-steps : goal.invariant-steps
invariant-steps l = l.labels.items ≡ l.fn.labels.items ++ step_labels (take l.i l.steps)
