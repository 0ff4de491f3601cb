use Rattle.rls_epoch.proofs.Needed.{needed_marked, reached_some}
use Rattle.rls_rename.specs.Tree.{greatest}
use Rattle.rls_rename.specs.Keeping.{reached}
use Rattle.std.proofs.Common.{◌++◌, arith}
use Rattle.rls_epoch.specs.Seen.{nodes_of}
use Rattle.rls_epoch.proofs.tree.Tree.number_needed.Goals as goal

pub spread-number-requires-clause-some : goal.spread-number-requires-clause-some
spread-number-requires-clause-some c = reached_some c.args.self.now.nodes.top c.args.self.now.nodes.placed c.args.v.now c.args.marks.now c.mark_reached.new.marks c.mark_reached.ensures.reached (let w = c.requires.whole in omega arith)

pub returns-clause-needed : goal.returns-clause-needed
returns-clause-needed c =
    let top = c.args.self.now.nodes.top in
    let ps = c.args.self.now.nodes.placed in
    λ es a. record {
      marks = c.spread-number.new.marks;
      numbers_are = c.number_marks.ensures.numbered;
      spread = c.spread-number.ensures.spread (greatest top (nodes_of ps)) (reached (record { top = top; nodes = nodes_of ps }) c.args.v.now ++ es)
          (needed_marked top ps c.count-count.ensures.laid c.args.v.now c.args.marks.now c.mark_reached.new.marks c.mark_reached.ensures.reached es a);
    }
