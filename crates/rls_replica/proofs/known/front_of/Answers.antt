use Rattle.std.proofs.Common.{⊎_elim, arith}
use Rattle.rls_runs.proofs.RunOrder.{rising_of}
use Rattle.rls_replica.proofs.Merges.{put_more}
use Rattle.rls_replica.proofs.known.front_of.Goals as goal

pub loop-at-preserved : goal.loop-at-preserved
loop-at-preserved c =
    let next = c.in_ok-at.ensures in
    let inv = c.loop-at.invariant in
    record {
      put = put_more c.args.ids.now c.loop-at.at c.in_ok-at.at c.loop-at.front c.put_part.new.both (rising_of c.args.ids.now c.total-total.ensures.idents.1) inv.put next.later (omega (arith, next.within, c.requires.within)) next.all next.only;
      within = next.within;
      only = λ x p. ⊎_elim (λ q. let s = inv.only x q in (s.0, s.1, omega (arith, s.2, next.later), s.3)) (λ s. (s.0, omega arith, s.2, s.3)) (next.only x p);
    }

pub returns : goal.returns
returns c = record { front = λ x p. let s = c.loop-at.invariant.only x p in (s.0, s.1, omega (arith, s.2, c.loop-at.invariant.within), s.3) }
