use Rattle.std.proofs.Common.{◌≡◌, ◌+◌, ◌++◌, length, drop}
use Rattle.std.specs.Prelude.{zip}
use Rattle.rls_runs.specs.Runs.{run_idents}
use Rattle.rls_doc.proofs.plain.push_run.Given as goal

abbrev pub invariant-loop-k : goal.invariant-loop-k
invariant-loop-k l = record {
  long : length l.added.items ≡ length l.fn.added.items + l.k;
  zipped : l.added.items ++ zip (drop l.k (run_idents l.run.0 l.run.1)) (drop (length l.added.items) l.text) ≡ l.fn.added.items ++ zip (run_idents l.run.0 l.run.1) (drop (length l.fn.added.items) l.text);
}
