use Rattle.std.proofs.Common.{◌<◌, ◌≤◌, suc, take}
use Rattle.rls_epoch.specs.Marks.{mark_count}
use Rattle.rls_epoch.proofs.marks.last_marked.Given as goal

-- there is a mark up to here
abbrev pub invariant-loop-last : goal.invariant-loop-last
invariant-loop-last l = record {
  in_range : l.last ≤ l.number;
  some : 0 < mark_count (take (suc l.last) l.marks);
}

abbrev pub decreases-loop-last : goal.decreases-loop-last
decreases-loop-last l = l.last
