use Rattle.std.proofs.Common.{None}
use Rattle.std.proofs.lemmas.Result.{err_from_is_err_and}
use Rattle.rls_codec.proofs.Loop.{goes_on_many, ends, is_done}
use Rattle.rls_fields.specs.ReadingFields.{stem_at}
use Rattle.rls_fields.proofs.read_stems.stem_list.Goals as goal

pub returns-in_err-found : goal.returns-in_err-found
returns-in_err-found c =
    let p = err_from_is_err_and c.from_residual.result c.from_residual.ensures.1 in
    rw (p.1, p.2) record { read = ends (λ before. stem_at c.args.form c.args.author) c.in_err-found.field-0.0 c.loop.stems None c.args.count c.loop.counter c.loop.rest.now _ c.loop-test.true c.in_err-found.ensures.read c.loop.invariant }

pub loop-preserved : goal.loop-preserved
loop-preserved c =
    rw c.in_ok-push.ensures.ok (goes_on_many (stem_at c.args.form c.args.author) c.loop.stems c.args.count c.loop.counter c.loop.rest.now c.in_ok-found.found c.in_ok-found.after.now _ c.loop-test.true c.in_ok-found.ensures.read c.loop.invariant)

pub returns : goal.returns
returns c = record { read = is_done (λ before. stem_at c.args.form c.args.author) c.loop.stems None c.args.count c.loop.counter c.loop.rest.now _ c.loop-test.false c.loop.invariant }
