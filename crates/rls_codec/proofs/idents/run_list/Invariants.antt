use Rattle.std.proofs.Common.{◌-◌, ◌*◌, ◌≤◌, ◌^◌, length, IsTrue, None}
use Rattle.rls_runs.specs.Runs.{runs_of, are_apart}
use Rattle.rls_codec.specs.Reading.{next_run_at, chain_at}
use Rattle.rls_codec.proofs.RunSteps.{RunsSoFar}
use Rattle.rls_codec.proofs.idents.run_list.Given as goal

abbrev pub invariant-loop : goal.invariant-loop
invariant-loop l = record {
  read : RunsSoFar l.runs (l.count - l.counter) l.rest (chain_at next_run_at None l.count l.bytes);
  apart : IsTrue (are_apart None (runs_of l.runs));
  few : length l.runs ≤ l.counter * 2 ^ 32;
}
