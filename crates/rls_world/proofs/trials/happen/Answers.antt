use Rattle.rls_world.proofs.Courses.{on_ok, went, as_many}
use Rattle.rls_world.proofs.trials.happen.Goals as goal

pub returns-clause-ok : goal.returns-clause-ok
returns-clause-ok c = on_ok c.made.result c.made.ensures.ok (went c.args.world.now c.step.new.self c.args.event.now c.step.result c.step.ensures.stands c.step.ensures.refused c.step.ensures.err)

pub returns-clause-members : goal.returns-clause-members
returns-clause-members c = on_ok c.made.result c.made.ensures.ok (as_many c.args.world.now c.step.new.self c.args.event.now c.step.result c.step.ensures.after c.step.ensures.err)
