use Rattle.std.proofs.Common.{◌≡◌, ◌++◌, [], take}
use Rattle.rls_seen.specs.Seen.{text_over}
use Rattle.rls_steps.specs.Courses.{cut_ranges, FitRanges}
use Rattle.rls_steps.specs.Recorded.{held_by, steps_of}
use Rattle.rls_steps.proofs.StepChanged.{IsNextRange}
use Rattle.rls_steps.proofs.returning.cut_all.Given as goal

-- the first ones were cut out
abbrev pub invariant-cuts : goal.invariant-cuts
invariant-cuts l = record {
  epochs : l.replica.epochs ≡ l.fn.replica.epochs;
  fit : FitRanges (held_by l.fn.replica l.fn.next l.fn.names) (take l.i l.ranges.items);
  held : held_by l.replica l.next l.names ≡ (cut_ranges (held_by l.fn.replica l.fn.next l.fn.names) (take l.i l.ranges.items) []).held;
  changes : IsNextRange l.ranges.items l.i l.fn.changes.items l.changes.items (text_over l.fn.replica) (text_over l.replica);
  stack : l.other.items ≡ l.fn.other.items ++ steps_of l.group (cut_ranges (held_by l.fn.replica l.fn.next l.fn.names) (take l.i l.ranges.items) []).other;
}
