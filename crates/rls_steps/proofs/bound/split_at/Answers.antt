use Rattle.rls_steps.proofs.Bounded.{counted_split}
use Rattle.rls_steps.proofs.bound.split_at.Goals as goal

pub returns-clause-kept : goal.returns-clause-kept
returns-clause-kept c = λ rs o. counted_split rs c.args.counts.now.entries c.put_count.new.counts.entries c.args.above c.args.label c.low_at-count.result o c.low_at-count.ensures.bound c.in_ok-put_count.ensures.put c.if-above-label.false
