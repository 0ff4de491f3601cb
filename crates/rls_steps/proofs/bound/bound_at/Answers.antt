use Rattle.rls_steps.proofs.Bounded.{floor_bound}
use Rattle.rls_steps.proofs.bound.bound_at.Goals as goal

pub returns : goal.returns
returns c = record { bound = floor_bound c.args.counts.now.entries c.args.label c.floor_of.result c.floor_of.ensures.floor }
