use Rattle.std.proofs.Common.{◌∙◌, ◌+◌, ◌-◌, ap, arith}
use Rattle.rls_world.specs.Draws.{after_draws}
use Rattle.rls_world.proofs.Letters.{letters_on, draws_on}
use Rattle.rls_world.proofs.draws.Draws.letters.Goals as goal

pub loop-preserved : goal.loop-preserved
loop-preserved c =
    let n = c.args.count in
    let k = c.loop.counter in
    let x = c.loop.self.state in
    let less = c.loop-test.true in
    record {
      letters = rw (c.in_ok-push.ensures.ok, c.draw.ensures.state, c.draw.ensures.drawn) (letters_on n k x c.loop.text _ (omega arith) c.loop.invariant.letters);
      state = ap (after_draws (n - (k + 1))) c.draw.ensures.state ∙ (draws_on n k x (omega arith) ∙ c.loop.invariant.state);
    }
