use Rattle.std.proofs.Common.{◌+◌, false, true, arith}
use Rattle.rls_runs.specs.Entries.{idents_in}
use Rattle.rls_blocks.specs.Trees.{entries_of}
use Rattle.rls_tree.proofs.Targets.{members_less}
use Rattle.rls_tree.proofs.tree.BlockTree.next_stretch.Goals as goal

pub returns-then-next-end-clause-stay : goal.returns-then-next-end-clause-stay
returns-then-next-end-clause-stay c = members_less false c.args.targets.now (idents_in (entries_of c.args.self.now.blocks)) c.args.at c.args.at c.args.end c.in_ok-next.next (omega arith) c.if-next-end.true c.in_ok-next.ensures.none

pub returns-then-next-end-clause-gone : goal.returns-then-next-end-clause-gone
returns-then-next-end-clause-gone c k x o l g = absurd (omega (arith, o, l))

pub returns-clause-gone : goal.returns-clause-gone
returns-clause-gone c =
    let next = c.in_ok-next.next in
    members_less true c.args.targets.now (idents_in (entries_of c.args.self.now.blocks)) next next c.min.result (next + c.in_ok-count.count) (omega arith) (omega (arith, c.min.ensures)) c.in_ok-count.ensures.targets
