use Rattle.std.proofs.Common.{◌≡◌, ℕ, ◌≤◌, ◌+◌, ◌-◌, ◌++◌, length, take}
use Rattle.std.specs.Prelude.{reverse, replicate}
use Rattle.rls_seen.specs.Seen.{text_over}
use Rattle.rls_steps.specs.Courses.{Back, course, MayRun}
use Rattle.rls_changes.specs.Edits.{edit_changes}
use Rattle.rls_steps.specs.Grounds.{over, held_at, steps_edits, steps_on}
use Rattle.rls_steps.specs.Groups.{stacked, in_front, group_size}
use Rattle.rls_steps.specs.Recorded.{held_by}
use Rattle.rls_steps.proofs.StepChanged.{IsNextBack}
use Rattle.rls_steps.proofs.undoing.back.Given as goal

-- so many steps of the group were taken back
abbrev pub invariant-steps : goal.invariant-steps
invariant-steps l = record {
  epochs : l.replica.epochs ≡ l.fn.replica.epochs;
  all : l.done + in_front l.group (reverse l.from.items) ≡ group_size l.fn.from.items;
  within : l.done ≤ length l.fn.from.items;
  left : l.from.items ≡ take (length l.fn.from.items - l.done) l.fn.from.items;
  fit : MayRun (stacked (held_by l.fn.replica l.fn.next l.fn.names) l.fn.from.items l.fn.to.items) (replicate l.done Back);
  run : (k : ℕ) → steps_on over (l.done + k) (held_at l.fn.replica l.fn.next l.fn.names) (reverse l.fn.from.items) l.fn.to.items ≡ steps_on over k (held_at l.replica l.next l.names) (reverse l.from.items) l.to.items;
  edits : (k : ℕ) → l.changes.items ++ edit_changes (steps_edits over k (held_at l.replica l.next l.names) (reverse l.from.items)) ≡ l.fn.changes.items ++ edit_changes (steps_edits over (l.done + k) (held_at l.fn.replica l.fn.next l.fn.names) (reverse l.fn.from.items));
  changes : IsNextBack (stacked (held_by l.fn.replica l.fn.next l.fn.names) l.fn.from.items l.fn.to.items) l.done l.fn.changes.items l.changes.items (text_over l.fn.replica) (text_over l.replica);
  after : stacked (held_by l.replica l.next l.names) l.from.items l.to.items ≡ course (stacked (held_by l.fn.replica l.fn.next l.fn.names) l.fn.from.items l.fn.to.items) (replicate l.done Back);
}

abbrev pub decreases-steps : goal.decreases-steps
decreases-steps l = length l.from.items
