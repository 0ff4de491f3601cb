use Rattle.std.proofs.lemmas.Result.{err_from_is_err_and}
use Rattle.rls_log.proofs.FoundOut.{skips_on, skip_ends, skip_done}
use Rattle.rls_log.proofs.scanning.skip_tuples.Goals as goal

pub returns-in_err-_tuple : goal.returns-in_err-_tuple
returns-in_err-_tuple c =
    let p = err_from_is_err_and c.from_residual.result c.from_residual.ensures.1 in
    rw (p.1, p.2) record { read = skip_ends c.in_err-_tuple.field-0.0 c.args.count c.loop.counter c.loop.rest.now _ c.loop-test.true c.in_err-_tuple.ensures.read c.loop.invariant }

pub loop-preserved : goal.loop-preserved
loop-preserved c = skips_on c.args.count c.loop.counter c.loop.rest.now c.in_ok-_tuple.after.now c.in_ok-_tuple._tuple _ c.loop-test.true c.in_ok-_tuple.ensures.read c.loop.invariant

pub returns : goal.returns
returns c = record { read = skip_done c.args.count c.loop.counter c.loop.rest.now _ c.loop-test.false c.loop.invariant }
