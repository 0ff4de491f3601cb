use Rattle.std.proofs.Common.{◌-◌, length, sym, ap, ◌∙◌, arith}
use Rattle.std.specs.Option.{option_copied, option_map}
use Rattle.rls_blocks.specs.Trees.{Piece, entries_of}
use Rattle.rls_blocks.specs.Beside.{first_place, last_place}
use Rattle.rls_blocks.proofs.Pieces.{node_length}
use Rattle.rls_blocks.proofs.Beside.{before_left, behind_left, before_own, behind_own, before_right, behind_right}
use Rattle.rls_blocks.proofs.node.Link.beside.Goals as goal

pub loop-node-preserved-then-i-node : goal.loop-node-preserved-then-i-node
loop-node-preserved-then-i-node c =
    let l = c.loop-node in
    let n = c.node-in-Some in
    let b : Piece = n.inside.block in
    let is = sym (ap (λ s. s.blocks) n.view_is ∙ c.in-Some.ensures.blocks) in
    let front = option_map last_place (option_copied l.before) in
    let back = option_map first_place (option_copied l.after) in
    record {
      place = omega arith;
      before = before_left b n.inside.left.blocks n.inside.right.blocks l.link.now.blocks is n.invariant.left_are n.invariant.own_is front l.i (omega arith) ∙ l.invariant.before;
      after = behind_left b n.inside.left.blocks n.inside.right.blocks l.link.now.blocks is n.invariant.left_are n.invariant.own_is back l.i (omega arith) ∙ l.invariant.after;
    }

pub returns-then-i-node-2-clause-before : goal.returns-then-i-node-2-clause-before
returns-then-i-node-2-clause-before c =
    let l = c.loop-node in
    let n = c.node-in-Some in
    before_own n.inside.block n.inside.left.blocks n.inside.right.blocks l.link.now.blocks (sym (ap (λ s. s.blocks) n.view_is ∙ c.in-Some.ensures.blocks)) n.invariant.left_are n.invariant.own_is (option_map last_place (option_copied l.before)) l.i (l.i - n.inside.front) (omega arith) (omega arith) (omega arith)
    ∙ l.invariant.before

pub returns-then-i-node-2-clause-behind : goal.returns-then-i-node-2-clause-behind
returns-then-i-node-2-clause-behind c =
    let l = c.loop-node in
    let n = c.node-in-Some in
    behind_own n.inside.block n.inside.left.blocks n.inside.right.blocks l.link.now.blocks (sym (ap (λ s. s.blocks) n.view_is ∙ c.in-Some.ensures.blocks)) n.invariant.left_are n.invariant.own_is (option_map first_place (option_copied l.after)) l.i (l.i - n.inside.front) (omega arith) (omega arith)
    ∙ l.invariant.after

pub loop-node-preserved : goal.loop-node-preserved
loop-node-preserved c =
    let l = c.loop-node in
    let n = c.node-in-Some in
    let b : Piece = n.inside.block in
    let is = sym (ap (λ s. s.blocks) n.view_is ∙ c.in-Some.ensures.blocks) in
    let j = l.i - n.inside.end in
    let all = node_length n.inside.left.blocks n.inside.right.blocks b n.invariant.own_is in
    let whole = ap (λ bs. length (entries_of bs)) is in
    let most = l.invariant.place in
    record {
      place = omega (arith, all, whole, most);
      before = before_right b n.inside.left.blocks n.inside.right.blocks l.link.now.blocks is n.invariant.left_are n.invariant.own_is (option_map last_place (option_copied l.before)) l.i j (omega arith) ∙ l.invariant.before;
      after = behind_right b n.inside.left.blocks n.inside.right.blocks l.link.now.blocks is n.invariant.left_are n.invariant.own_is (option_map first_place (option_copied l.after)) l.i j (omega arith) ∙ l.invariant.after;
    }
