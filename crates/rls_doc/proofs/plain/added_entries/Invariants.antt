use Rattle.std.proofs.Common.{◌≡◌, ◌+◌, ◌++◌, length, drop}
use Rattle.std.specs.Prelude.{zip}
use Rattle.rls_runs.specs.Runs.{idents_of}
use Rattle.rls_doc.proofs.plain.added_entries.Given as goal

abbrev pub invariant-loop-run : goal.invariant-loop-run
invariant-loop-run l = record {
  as_many : length l.added.items + length (idents_of (drop l.run-index l.runs)) ≡ length l.text;
  zipped : l.added.items ++ zip (idents_of (drop l.run-index l.runs)) (drop (length l.added.items) l.text) ≡ zip (idents_of l.runs) l.text;
}
