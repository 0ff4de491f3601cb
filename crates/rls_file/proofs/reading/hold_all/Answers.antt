use Rattle.std.proofs.Common.{[], refl}
use Rattle.std.proofs.lemmas.Result.{err_from_is_err_and}
use Rattle.rls_file.proofs.Holding.{beside, wait_on, wait_fails, wait_done, wait_start}
use Rattle.rls_file.proofs.Replaying.{none_waits}
use Rattle.rls_file.proofs.reading.hold_all.Goals as goal

pub waiting-init : goal.waiting-init
waiting-init c = record { read = λ H h. ([], none_waits H c.args.replica.now h, wait_start H [] c.args.count c.args.bytes.now refl) }

pub returns-in_err-after : goal.returns-in_err-after
returns-in_err-after c = record {
  read = λ H h.
      let i = c.waiting.invariant.read H h in
      let p = err_from_is_err_and c.from_residual.result c.from_residual.ensures.1 in
      rw (p.1, p.2) (wait_fails c.in_err-after.field-0.0 H i.0 c.args.count c.waiting.counter c.waiting.rest.now _ c.waiting-test.true (c.in_err-after.ensures.read (beside H i.0) i.1) i.2);
}

pub waiting-preserved : goal.waiting-preserved
waiting-preserved c = record {
  read = λ H h.
      let i = c.waiting.invariant.read H h in
      let e = c.in_ok-after.ensures.read (beside H i.0) i.1 in
      (e.0, e.2, wait_on H i.0 e.0 c.args.count c.waiting.counter c.waiting.rest.now c.in_ok-after.after.now _ c.waiting-test.true e.1 i.2);
}

pub returns : goal.returns
returns c = record {
  read = λ H h.
      let i = c.waiting.invariant.read H h in
      (i.0, wait_done H i.0 c.args.count c.waiting.counter c.waiting.rest.now _ c.waiting-test.false i.2, i.1);
}
