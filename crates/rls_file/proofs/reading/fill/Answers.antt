use Rattle.std.proofs.lemmas.Result.{err_from_is_err_and}
use Rattle.rls_file.proofs.Filling.{fill_fails, fill_stops, fill_uncounted, fill_ends, fill_done}
use Rattle.rls_file.proofs.Holding.{beside}
use Rattle.rls_file.proofs.reading.fill.Goals as goal

pub returns-in_err-count : goal.returns-in_err-count
returns-in_err-count c = record {
  read = λ H h.
      let p = err_from_is_err_and c.from_residual.result c.from_residual.ensures.1 in
      rw (p.1, p.2) (fill_fails c.in_err-count.field-0.0 H c.args.bytes.now c.in_err-count.ensures.read);
}

pub returns-in_err-rest : goal.returns-in_err-rest
returns-in_err-rest c = record {
  read = λ H h.
      let p = err_from_is_err_and c.from_residual-in_err-rest.result c.from_residual-in_err-rest.ensures.1 in
      rw (p.1, p.2) (fill_stops c.in_err-rest.field-0.0 H c.args.bytes.now c.in_ok-count.rest.now c.in_ok-count.count c.in_ok-count.ensures.read (c.in_err-rest.ensures.read H h));
}

pub returns-in_err-count-2 : goal.returns-in_err-count-2
returns-in_err-count-2 c = record {
  read = λ H h.
      let e = c.in_ok-rest.ensures.read H h in
      let p = err_from_is_err_and c.from_residual-in_err-count-2.result c.from_residual-in_err-count-2.ensures.1 in
      rw (p.1, p.2) (fill_uncounted c.in_err-count-2.field-0.0 H e.0 c.args.bytes.now c.in_ok-count.rest.now c.in_ok-rest.rest.now c.in_ok-count.count c.in_ok-count.ensures.read e.1 c.in_err-count-2.ensures.read);
}

pub returns-in_err-rest-2 : goal.returns-in_err-rest-2
returns-in_err-rest-2 c = record {
  read = λ H h.
      let e = c.in_ok-rest.ensures.read H h in
      let p = err_from_is_err_and c.from_residual-in_err-rest-2.result c.from_residual-in_err-rest-2.ensures.1 in
      rw (p.1, p.2) (fill_ends c.in_err-rest-2.field-0.0 H e.0 c.args.bytes.now c.in_ok-count.rest.now c.in_ok-rest.rest.now c.in_ok-count-2.rest.now c.in_ok-count.count c.in_ok-count-2.count c.in_ok-count.ensures.read e.1
      c.in_ok-count-2.ensures.read (c.in_err-rest-2.ensures.read e.0 e.2));
}

pub returns : goal.returns
returns c = record {
  read = λ H h.
      let e = c.in_ok-rest.ensures.read H h in
      let w = c.in_ok-rest-2.ensures.read e.0 e.2 in (
        beside e.0 w.0,
        fill_done H e.0 w.0 c.args.bytes.now c.in_ok-count.rest.now c.in_ok-rest.rest.now c.in_ok-count-2.rest.now c.in_ok-rest-2.rest.now c.in_ok-count.count c.in_ok-count-2.count c.in_ok-count.ensures.read e.1 c.in_ok-count-2.ensures.read w.1,
        w.2,
      );
}
