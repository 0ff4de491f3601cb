use Rattle.std.proofs.Common.{arith}
use Rattle.rls_epoch.proofs.Jumping.{level_other, level_some, up_again, up_self}
use Rattle.rls_epoch.proofs.nodes.Nodes.siblings_above.Goals as goal

pub loop-next-init : goal.loop-next-init
loop-next-init c = record {
  left_within = omega arith;
  right_within = omega arith;
  level = c.requires.level;
  left_above = up_self c.args.self.now.top c.args.self.now.placed c.args.a;
  right_above = up_self c.args.self.now.top c.args.self.now.placed c.args.b;
}

pub loop-next-preserved : goal.loop-next-preserved
loop-next-preserved c =
    let i = c.loop-next.invariant in
    let top = c.args.self.now.top in
    let ps = c.args.self.now.placed in
    let u = c.both_further_up-next.ensures in
    record {
      left_within = omega arith;
      right_within = omega arith;
      level = u.level;
      left_above = up_again top ps c.args.a c.loop-next.left c.both_further_up-next.result.0 i.left_above u.left;
      right_above = up_again top ps c.args.b c.loop-next.right c.both_further_up-next.result.1 i.right_above u.right;
    }

pub overflow_sub-left : goal.overflow_sub-left
overflow_sub-left c =
    let w = c.loop-next.invariant.right_within in
    let v = c.requires.second in
    let s = level_some c.args.self.now.top c.args.self.now.placed c.count-count.ensures.laid c.loop-next.left c.loop-next.right (omega arith) c.loop-next.invariant.level in
    omega (arith, s)

pub overflow_sub-right : goal.overflow_sub-right
overflow_sub-right c =
    let w = c.loop-next.invariant.left_within in
    let v = c.requires.first in
    let s = level_some c.args.self.now.top c.args.self.now.placed c.count-count.ensures.laid c.loop-next.right c.loop-next.left (omega arith) (level_other c.args.self.now.top c.args.self.now.placed c.loop-next.left c.loop-next.right c.loop-next.invariant.level) in
    omega (arith, s)

pub returns-clause-some : goal.returns-clause-some
returns-clause-some c =
    let w = c.loop-next.invariant.right_within in
    let v = c.requires.second in
    level_some c.args.self.now.top c.args.self.now.placed c.count-count.ensures.laid c.loop-next.left c.loop-next.right (omega arith) c.loop-next.invariant.level

pub returns-clause-other_some : goal.returns-clause-other_some
returns-clause-other_some c =
    let w = c.loop-next.invariant.left_within in
    let v = c.requires.first in
    level_some c.args.self.now.top c.args.self.now.placed c.count-count.ensures.laid c.loop-next.right c.loop-next.left (omega arith) (level_other c.args.self.now.top c.args.self.now.placed c.loop-next.left c.loop-next.right c.loop-next.invariant.level)
