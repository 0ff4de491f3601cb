use Rattle.std.proofs.Common.{◌∙◌, sym, subst}
use Rattle.std.specs.Prelude.{replicate}
use Rattle.rls_model.specs.declared.event.Event.TheVariants as events
use Rattle.rls_model.specs.Worlds.{World}
use Rattle.rls_world.specs.Seen.{StandsForWorld}
use Rattle.rls_world.specs.Trial.{after_events}
use Rattle.rls_world.proofs.Courses.{once_more}
use Rattle.rls_world.proofs.trials.deliver.Goals as goal

pub loop-done-preserved : goal.loop-done-preserved
loop-done-preserved c =
    let e = events.Deliver c.args.message c.args.to in
    let n = c.loop-done.done in (
      λ w h. subst (λ (v : World). StandsForWorld c.happen.new.world v) (sym (once_more w e n)) (c.in_ok-happen.ensures.ok (after_events w (replicate n e)) (c.loop-done.invariant.0 w h)),
      c.in_ok-happen.ensures.members ∙ c.loop-done.invariant.1,
    )
