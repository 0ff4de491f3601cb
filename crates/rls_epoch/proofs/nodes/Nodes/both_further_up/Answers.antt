use Rattle.std.proofs.Common.{arith}
use Rattle.rls_epoch.proofs.Jumping.{level_other, level_some, parent_up}
use Rattle.rls_epoch.proofs.nodes.Nodes.both_further_up.Goals as goal

pub jump-x-requires-clause-some : goal.jump-x-requires-clause-some
jump-x-requires-clause-some c = level_some c.args.self.now.top c.args.self.now.placed c.count-count.ensures.laid c.args.a c.args.b c.requires.second c.requires.level

pub jump-y-requires-clause-some : goal.jump-y-requires-clause-some
jump-y-requires-clause-some c =
    level_some c.args.self.now.top c.args.self.now.placed c.count-count.ensures.laid c.args.b c.args.a c.requires.first (level_other c.args.self.now.top c.args.self.now.placed c.args.a c.args.b c.requires.level)

pub returns-else-x-y : goal.returns-else-x-y
returns-else-x-y c =
    let top = c.args.self.now.top in
    let ps = c.args.self.now.placed in
    let l = c.count-count.ensures.laid in
    let s = level_some top ps l c.args.a c.args.b c.requires.second c.requires.level in
    let t = level_some top ps l c.args.b c.args.a c.requires.first (level_other top ps c.args.a c.args.b c.requires.level) in
    let x = parent_up top ps l c.args.a s c.requires.first in
    let y = parent_up top ps l c.args.b t c.requires.second in
    let u = c.up_of.ensures.up in
    let v = c.up_of-else-x-y.ensures.up in
    let d = x.1 in
    let e = y.1 in
    let q = c.requires.level.level in
    rw (u, v) record {
      level = record { apart = c.requires.parents; level = omega (arith, d, e, q) };
      lesser = x.2;
      other_lesser = y.2;
      left = x.0;
      right = y.0;
    }
