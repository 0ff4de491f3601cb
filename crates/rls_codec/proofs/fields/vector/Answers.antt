use Rattle.std.proofs.Common.{None}
use Rattle.std.proofs.lemmas.Result.{err_from_is_err_and}
use Rattle.std.specs.Int.{w32}
use Rattle.rls_codec.specs.Reading.{number_at}
use Rattle.rls_codec.proofs.Loop.{goes_on_many, ends, is_done}
use Rattle.rls_codec.proofs.fields.vector.Goals as goal

pub returns-in_err-count : goal.returns-in_err-count
returns-in_err-count c =
    let p = err_from_is_err_and c.from_residual.result c.from_residual.ensures.1 in
    rw (p.1, p.2) record { read = ends (λ before. number_at w32) c.in_err-count.field-0.0 c.loop.counts None c.args.members c.loop.counter c.loop.rest.now _ c.loop-test.true c.in_err-count.ensures.read c.loop.invariant }

pub loop-preserved : goal.loop-preserved
loop-preserved c =
    rw c.in_ok-push.ensures.ok (goes_on_many (number_at w32) c.loop.counts c.args.members c.loop.counter c.loop.rest.now c.in_ok-count.count c.in_ok-count.after.now _ c.loop-test.true c.in_ok-count.ensures.read c.loop.invariant)

pub returns : goal.returns
returns c = record { read = is_done (λ before. number_at w32) c.loop.counts None c.args.members c.loop.counter c.loop.rest.now _ c.loop-test.false c.loop.invariant }
