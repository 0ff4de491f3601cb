use Rattle.std.proofs.Common.{◌≡◌, ◌∙◌, sym, ap, subst, arith}
use Rattle.rls_model.specs.Worlds.{empty_world}
use Rattle.rls_world.specs.Seen.{StandsForWorld}
use Rattle.rls_world.specs.Trial.{Course, steps, rounds, course, trial}
use Rattle.rls_world.proofs.Courses.{if_ok, steps_more}
use Rattle.rls_world.proofs.trials.trial.Goals as goal

pub loop-done-preserved : goal.loop-done-preserved
loop-done-preserved c =
    let start : Course = record { world = empty_world 1 3; drawn_by = c.args.seed } in
    let n = c.loop-done.done in
    let k = steps n start in
    let r = c.in_ok-make_step.ensures.ok k (sym c.loop-done.invariant.1) c.loop-done.invariant.0 in
    let e = steps_more n start in
    (subst (λ (x : Course). StandsForWorld c.make_step.new.world x.world) (sym e) r.1, r.0 ∙ ap (λ (x : Course). x.drawn_by) (sym e), c.in_ok-make_step.ensures.three)

pub returns : goal.returns
unfolding trial course
returns c =
    let start : Course = record { world = empty_world 1 3; drawn_by = c.args.seed } in
    let low = c.loop-done.auto.done-end in
    let high = c.loop-done-test.false in
    let all : c.loop-done.done ≡ c.args.steps = omega arith in
    let stands : StandsForWorld c.loop-done.world (steps c.args.steps start).world = subst (λ n. StandsForWorld c.loop-done.world (steps n start).world) all c.loop-done.invariant.0 in
    record { summary = if_ok c.summarize.result c.summarize.ensures.summary (λ x f. f (rounds (steps c.args.steps start).world) (c.in_ok-make_rounds.ensures.ok (steps c.args.steps start).world stands)) }
