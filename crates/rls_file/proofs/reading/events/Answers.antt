use Rattle.std.proofs.Common.{ap, arith}
use Rattle.rls_model.specs.History.{Then}
use Rattle.rls_file.specs.ReadingFiles.{steps_at, entry_at}
use Rattle.std.proofs.lemmas.Result.{err_from_is_err_and}
use Rattle.rls_file.proofs.Events.{events_on, events_fail, events_done}
use Rattle.rls_file.proofs.reading.events.Goals as goal

pub events-init : goal.events-init
events-init c = record { read = λ H h. (H, h, ap (λ n. steps_at entry_at Then H n c.args.bytes.now) (omega arith)) }

pub returns-in_err-after : goal.returns-in_err-after
returns-in_err-after c = record {
  read = λ H h.
      let i = c.events.invariant.read H h in
      let p = err_from_is_err_and c.from_residual.result c.from_residual.ensures.1 in
      rw (p.1, p.2) (events_fail c.in_err-after.field-0.0 i.0 c.args.count c.events.counter c.events.rest.now _ c.events-test.true (c.in_err-after.ensures.read i.0 i.1) i.2);
}

pub events-preserved : goal.events-preserved
events-preserved c = record {
  read = λ H h.
      let i = c.events.invariant.read H h in
      let e = c.in_ok-after.ensures.read i.0 i.1 in
      (e.0, e.2, events_on i.0 e.0 c.args.count c.events.counter c.events.rest.now c.in_ok-after.after.now _ c.events-test.true e.1 i.2);
}

pub returns : goal.returns
returns c = record {
  read = λ H h.
      let i = c.events.invariant.read H h in
      (i.0, events_done i.0 c.args.count c.events.counter c.events.rest.now _ c.events-test.false i.2, i.1);
}
