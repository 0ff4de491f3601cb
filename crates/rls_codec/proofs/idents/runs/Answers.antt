use Rattle.std.proofs.lemmas.Result.{err_from_is_err_and}
use Rattle.rls_codec.proofs.RunSteps.{counted_runs, counted_fails, count_fails}
use Rattle.rls_codec.proofs.idents.runs.Goals as goal

pub returns-in_err-count : goal.returns-in_err-count
returns-in_err-count c =
    let p = err_from_is_err_and c.from_residual.result c.from_residual.ensures.1 in
    rw (p.1, p.2) record { read = count_fails c.in_err-count.field-0.0 c.args.bytes.now c.in_err-count.ensures.read }

pub returns-in_err-runs : goal.returns-in_err-runs
returns-in_err-runs c =
    let p = err_from_is_err_and c.from_residual-in_err-runs.result c.from_residual-in_err-runs.ensures.1 in
    rw (p.1, p.2) record { read = counted_fails c.in_err-runs.field-0.0 c.args.bytes.now c.in_ok-count.rest.now c.in_ok-count.count c.in_ok-count.ensures.read c.in_err-runs.ensures.read }

pub returns : goal.returns
returns c = record { read = counted_runs c.args.bytes.now c.in_ok-count.rest.now c.in_ok-runs.rest.now c.in_ok-count.count c.in_ok-runs.runs c.in_ok-count.ensures.read c.in_ok-runs.ensures.read }
