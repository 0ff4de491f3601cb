use Rattle.std.proofs.Common.{arith}
use Rattle.rls_replica.proofs.Merges.{above_all, first_at, put_all, put_only}
use Rattle.rls_replica.proofs.uniting.put_part.Goals as goal

pub append-requires-clause-above : goal.append-requires-clause-above
append-requires-clause-above c =
    above_all c.args.both.now c.in_ok-part.part.0 (c.requires.above c.in_ok-part.part.0 (first_at c.args.ids.now c.args.both.now c.args.both.now c.args.from c.locate-place.result.1 c.min-count.result c.locate-place.result.0.now.0 c.in_ok-part.part c.in_ok-part.ensures.part (λ k l. c.locate-place.ensures.idents k (omega (arith, l, c.locate-place.ensures.within, c.min-count.ensures))) (omega (arith, c.locate-place.ensures.within, c.min-count.ensures, c.requires.some))))

pub returns-clause-all : goal.returns-clause-all
returns-clause-all c =
    put_all c.args.ids.now c.args.both.now c.append.new.self c.args.from c.locate-place.result.1 c.min-count.result c.locate-place.result.0.now.0 c.in_ok-part.part c.in_ok-part.ensures.part (λ k l. c.locate-place.ensures.idents k (omega (arith, l, c.locate-place.ensures.within, c.min-count.ensures))) c.in_ok-append.ensures.ok

pub returns-clause-only : goal.returns-clause-only
returns-clause-only c =
    put_only c.args.ids.now c.args.both.now c.append.new.self c.args.from c.locate-place.result.1 c.min-count.result c.locate-place.result.0.now.0 c.in_ok-part.part c.in_ok-part.ensures.part (λ k l. c.locate-place.ensures.idents k (omega (arith, l, c.locate-place.ensures.within, c.min-count.ensures))) c.in_ok-append.ensures.ok
