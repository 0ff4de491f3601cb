use Rattle.rls_epoch.proofs.Compacting.{IsNumbering}
use Rattle.rls_epoch.proofs.keeping.number_marks.Given as goal

-- those in front of the index are numbered
abbrev pub invariant-loop-i : goal.invariant-loop-i
invariant-loop-i l = IsNumbering l.fn.marks l.marks l.i l.count
