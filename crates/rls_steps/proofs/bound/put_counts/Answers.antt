use Rattle.std.proofs.Common.{arith}
use Rattle.rls_steps.proofs.Bounded.{counted_all, counted_wider}
use Rattle.rls_steps.proofs.bound.put_counts.Goals as goal

pub returns-in_err-split_at-clause-kept : goal.returns-in_err-split_at-clause-kept
returns-in_err-split_at-clause-kept c = λ rs a o all h g. counted_wider rs c.split_at.new.counts.entries c.args.above a (c.split_at.ensures.kept rs o) h

pub returns-clause-kept : goal.returns-clause-kept
returns-clause-kept c = λ rs a o all h g.
    let order = c.requires.order in
    counted_all rs c.open_gap.new.counts.entries c.put_count.new.counts.entries a c.args.low c.args.count (c.open_gap.ensures.kept rs a (c.split_at.ensures.kept rs o) h (omega (arith, order, g))) c.in_ok-put_count.ensures.put (omega (arith, order, g)) all
