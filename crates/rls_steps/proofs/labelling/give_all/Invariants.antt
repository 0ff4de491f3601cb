use Rattle.std.proofs.Common.{◌≡◌, ◌-◌, ◌≤◌, length, map, take}
use Rattle.std.specs.Prelude.{reverse, Some}
use Rattle.rls_seen.specs.Seen.{Seen}
use Rattle.rls_steps.specs.Labelled.{label_all, label_of}
use Rattle.rls_steps.specs.Recorded.{held_by}
use Rattle.rls_steps.proofs.labelling.give_all.Given as goal

-- the first ones have labels, which are these
abbrev pub invariant-labels : goal.invariant-labels
invariant-labels l = record {
  within : l.i ≤ length l.ids;
  held : (s : Seen) → held_by s l.next l.names ≡ label_all (held_by s l.fn.next l.fn.names) (take l.i l.ids);
  labels : (s : Seen) → map Some l.labels.items ≡ map (label_of (reverse l.names)) (take l.i l.ids);
  front : take (length l.fn.names) l.names ≡ l.fn.names;
}

abbrev pub decreases-labels : goal.decreases-labels
decreases-labels l = length l.ids - l.i
