use Rattle.std.proofs.Common.{ℕ, List, sym, subst, arith}
use Rattle.rls_steps.specs.Bounds.{AreCounted}
use Rattle.rls_steps.proofs.Bounded.{counted_gap, counted_wider}
use Rattle.rls_steps.proofs.bound.open_gap.Goals as goal

pub returns-then-low-above-clause-kept : goal.returns-then-low-above-clause-kept
returns-then-low-above-clause-kept c = λ rs a o h g. counted_wider rs c.args.counts.now.entries c.args.above a o h

pub returns-clause-kept : goal.returns-clause-kept
returns-clause-kept c = λ rs a o h g. counted_gap rs c.args.counts.now.entries c.put_count.new.counts.entries c.args.above a 0 o c.in_ok-put_count.ensures.put (omega (arith, g, c.if-low-above.false))

pub returns-in_err-put_count-clause-kept : goal.returns-in_err-put_count-clause-kept
returns-in_err-put_count-clause-kept c = λ rs a o h g.
    subst (λ (es : List (ℕ × ℕ)). AreCounted rs es a) (sym c.in_err-put_count.ensures.stay) (counted_wider rs c.args.counts.now.entries c.args.above a o h)
