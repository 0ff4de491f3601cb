use Rattle.std.proofs.Common.{arith}
use Rattle.rls_runs.proofs.RunOrder.{rising_of}
use Rattle.rls_replica.proofs.Merges.{not_among}
use Rattle.rls_replica.proofs.known.clear_from.Goals as goal

pub returns : goal.returns
returns c = record {
  clear = λ k x l g p. not_among c.args.ids.now c.args.list.now c.args.at c.in_ok-end.end c.count_below.result k c.args.first.now x
      (rising_of c.args.ids.now c.total-ids.ensures.idents.1) (rising_of c.args.list.now c.total-list.ensures.idents.1) c.requires.first c.count_below.ensures.count c.in_ok-end.ensures.less (omega (arith, l, c.saturating_sub.ensures)) g p;
}
