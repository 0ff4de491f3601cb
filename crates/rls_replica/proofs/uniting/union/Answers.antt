use Rattle.std.proofs.Common.{⊎_elim, arith}
use Rattle.rls_replica.proofs.Merges.{all_put}
use Rattle.rls_replica.proofs.uniting.union.Goals as goal

pub returns-clause-first : goal.returns-clause-first
returns-clause-first c = all_put c.args.a.now c.loop-i.i c.loop-i.both c.loop-i.invariant.first (omega (arith, c.if-i-total.false))

pub returns-clause-second : goal.returns-clause-second
returns-clause-second c = all_put c.args.b.now c.loop-i.j c.loop-i.both c.loop-i.invariant.second (omega (arith, c.if-j-total.false))

pub loop-i-preserved : goal.loop-i-preserved
loop-i-preserved c = record {
  first = c.in_ok-next.ensures.first;
  second = c.in_ok-next.ensures.second;
  only = λ x p. ⊎_elim (c.loop-i.invariant.only x) (λ q. q) (c.in_ok-next.ensures.only x p);
}
