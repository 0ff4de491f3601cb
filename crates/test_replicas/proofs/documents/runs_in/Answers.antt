use Rattle.std.proofs.Common.{◌∙◌, ap}
use Rattle.std.proofs.lemmas.List.{take_all}
use Rattle.rls_runs.specs.Runs.{runs_of, idents_of}
use Rattle.rls_runs.proofs.RunsOf.{idents_of_runs}
use Rattle.test_replicas.proofs.documents.runs_in.Goals as goal

pub returns : goal.returns
returns c =
    let runs = runs_of c.args.idents.now in
    record {
      same = ap idents_of (c.loop-run.invariant ∙ take_all c.loop-run.run-index runs (rw c.as_slice-run-items.ensures.runs at c.loop-run-test.false)) ∙ idents_of_runs c.args.idents.now;
    }
