use Rattle.std.proofs.Common.{arith}
use Rattle.std.proofs.lemmas.Result.{err_from_is_err_and}
use Rattle.rls_codec.proofs.RunSteps.{one_run, no_run, all_runs}
use Rattle.rls_codec.proofs.idents.run_list.Goals as goal

pub returns-in_err-rest : goal.returns-in_err-rest
returns-in_err-rest c =
    let p = err_from_is_err_and c.from_residual.result c.from_residual.ensures.1 in
    rw (p.1, p.2) record { read = no_run c.in_err-rest.field-0.0 c.loop.runs c.args.count c.loop.counter c.loop.rest.now _ c.loop-test.true c.in_err-rest.ensures.fails c.loop.invariant.read }

pub loop-preserved : goal.loop-preserved
loop-preserved c =
    let p = c.in_ok-rest.ensures.puts in
    record {
      read = one_run c.loop.runs c.next_run.new.runs c.args.count c.loop.counter c.loop.rest.now c.in_ok-rest.rest.now _ c.loop-test.true p c.loop.invariant.read;
      apart = p.apart;
      few = omega (arith, p.few, c.loop.invariant.few);
    }

pub returns : goal.returns
returns c = record { read = all_runs c.loop.runs c.args.count c.loop.counter c.loop.rest.now _ c.loop-test.false c.loop.invariant.read }
