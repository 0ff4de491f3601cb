use Rattle.std.proofs.lemmas.Result.{on_ok_weaker}
use Rattle.rls_steps.proofs.Keeping.{kept_overfull, kept_shows}
use Rattle.rls_steps.proofs.steps.Steps.keep_within.Goals as goal

pub returns-then-len-self-clause-shows : goal.returns-then-len-self-clause-shows
returns-then-len-self-clause-shows c = λ d x. kept_overfull c.args.replica.now c.args.self.now c.drop_overfull.new.self d c.drop_overfull.ensures.left x

pub returns-in-Err-clause-dropped : goal.returns-in-Err-clause-dropped
returns-in-Err-clause-dropped c = λ e h. (c.in-Err.ensures.dropped e).0 h

pub returns-in-Ok-clause-shows : goal.returns-in-Ok-clause-shows
returns-in-Ok-clause-shows c =
    on_ok_weaker c.sweep.result
    (λ f. kept_shows c.args.replica.now c.args.self.now c.settle.new.self c.sweep.new.self c.args.steps c.args.chars c.in-Ok.ensures.settled c.sweep.ensures.apart c.sweep.ensures.within f) c.sweep.ensures.swept
