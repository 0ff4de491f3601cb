use Rattle.std.proofs.Common.{◌≡◌, ◌+◌, ◌≤◌, length, drop}
use Rattle.rls_runs.specs.Runs.{runs_of}
use Rattle.rls_runs.specs.Entries.{idents_in}
use Rattle.rls_doc.proofs.plain.count_runs.Given as goal

abbrev pub invariant-loop-i : goal.invariant-loop-i
invariant-loop-i l = record {
  few : l.count ≤ l.i;
  runs : l.count + length (runs_of (idents_in (drop l.i l.entries))) ≡ length (runs_of (idents_in l.entries));
}
