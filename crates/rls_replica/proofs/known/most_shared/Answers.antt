use Rattle.std.proofs.Common.{length, refl, arith}
use Rattle.std.proofs.lemmas.Option.{slice_get_read}
use Rattle.rls_replica.proofs.Remembering.{in_joined}
use Rattle.rls_replica.proofs.known.most_shared.Goals.{then-count-most, else-count-most}
use Rattle.rls_replica.proofs.known.most_shared.Goals as goal

pub loop-list-preserved : goal.loop-list-preserved
loop-list-preserved c =
    let i = c.loop-list.list-index in
    let list = c.list-item.result in
    let ls = c.args.lists.now in
    let at = slice_get_read ls (length ls) i list refl c.loop-list-test.true c.list-item.is in
    elim c.if-count-most.branch [
      | then-count-most w ↦ record {
        within = omega (arith, w.most-is, c.shared_from-count.ensures.within);
        there = λ k x l p. in_joined ls i list x at (c.shared_from-count.ensures.there k x (omega (arith, l, w.most-is)) p);
      }
      | else-count-most w ↦ record {
        within = omega (arith, w.most-is, c.loop-list.invariant.within);
        there = λ k x l p. c.loop-list.invariant.there k x (omega (arith, l, w.most-is)) p;
      }
    ]
