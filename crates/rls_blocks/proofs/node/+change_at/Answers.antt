use Rattle.std.proofs.Common.{◌+◌, ◌-◌, ◌∷◌, ◌++◌, length, refl, sym, ap, arith, length-append}
use Rattle.std.proofs.lemmas.Result.{on_ok_weaker}
use Rattle.rls_blocks.proofs.Placed.{there_front, there_own, there_behind}
use Rattle.rls_blocks.proofs.Changed.{sound_again, chars_are, may_there, changed_left, changed_own, changed_right}
use Rattle.rls_blocks.proofs.node.+change_at.Goals as goal

-- ---- in its left side

pub Node::change_at-change_at-done-requires : goal.Node::change_at-change_at-done-requires
Node::change_at-change_at-done-requires t c =
    let s = c.self.inside in
    let v = c.self.invariant in
    let is = sym (ap (λ n. n.blocks) c.self.view_is) in
    (omega (arith, ap length is, length-append s.left.blocks (s.block ∷ s.right.blocks)), (omega arith, (may_there c.args.change (there_front _ _ _ _ c.args.i is v.left_are v.own_is (omega arith)) c.requires.may, omega (arith, chars_are _ _ _ _ is v.own_is))))

pub Node::change_at-overflow_add-self : goal.Node::change_at-overflow_add-self
Node::change_at-overflow_add-self t c = omega (arith, chars_are _ _ _ _ (sym (ap (λ n. n.blocks) c.self.view_is)) c.self.invariant.own_is, c.change_at-done.ensures.chars, c.chars-self-inside.ensures.chars, c.len.ensures.len, c.requires.chars_fit)

pub Node::change_at-overflow_add-self-then-i-self : goal.Node::change_at-overflow_add-self-then-i-self
Node::change_at-overflow_add-self-then-i-self t c = omega (arith, chars_are _ _ _ _ (sym (ap (λ n. n.blocks) c.self.view_is)) c.self.invariant.own_is, c.change_at-done.ensures.chars, c.chars-self-inside.ensures.chars, c.len.ensures.len, c.requires.chars_fit)

pub Node::change_at-invariant_of-self : goal.Node::change_at-invariant_of-self
Node::change_at-invariant_of-self t c =
    let s = c.self.inside in
    let v = c.self.invariant in
    let e = c.change_at-done.ensures in
    sound_again s.left s.right c.change_at-done.new.self s.right s.block s.block s.front s.end s.chars c.chars-self-inside.result (c.chars-self-inside.result + c.len.result) (c.chars-self-inside.result + c.len.result + (s.chars - s.end)) s.blocks s.height v
    v.own_is c.chars-self-inside.ensures.pieces v.right_are e.count e.height refl refl c.chars-self-inside.ensures.chars (omega arith) (omega arith)

pub Node::change_at-returns-then-i-self-clause-ok : goal.Node::change_at-returns-then-i-self-clause-ok
Node::change_at-returns-then-i-self-clause-ok t c =
    let v = c.self.invariant in
    on_ok_weaker c.change_at-done.result (changed_left _ _ _ _ _ c.args.i (sym (ap (λ n. n.blocks) c.self.view_is)) v.left_are v.own_is c.change_at-done.new.self.blocks (omega arith)) c.change_at-done.ensures.ok

pub Node::change_at-returns-then-i-self-clause-chars : goal.Node::change_at-returns-then-i-self-clause-chars
Node::change_at-returns-then-i-self-clause-chars t c =
    let s = c.self.inside in
    let v = c.self.invariant in
    omega (arith, chars_are _ _ _ _ (sym (ap (λ n. n.blocks) c.self.view_is)) v.own_is, chars_are c.change_at-done.new.self.blocks s.right.blocks (c.change_at-done.new.self.blocks ++ s.block ∷ s.right.blocks) s.block refl v.own_is, c.change_at-done.ensures.chars)

-- ---- in its block

pub Node::change_at-change-done-requires : goal.Node::change_at-change-done-requires
Node::change_at-change-done-requires t c =
    let v = c.self.invariant in
    record { may = may_there c.args.change (there_own _ _ _ _ c.args.i (sym (ap (λ n. n.blocks) c.self.view_is)) v.left_are v.own_is (c.args.i - c.self.inside.front) (omega arith) (omega arith)) c.requires.may }

pub Node::change_at-overflow_add-self-then-i-self-2 : goal.Node::change_at-overflow_add-self-then-i-self-2
Node::change_at-overflow_add-self-then-i-self-2 t c = omega (arith, chars_are _ _ _ _ (sym (ap (λ n. n.blocks) c.self.view_is)) c.self.invariant.own_is, c.change-done.ensures.chars, c.len-then-i-self-2.ensures.len, c.requires.chars_fit)

pub Node::change_at-overflow_add-self-then-i-self-2-2 : goal.Node::change_at-overflow_add-self-then-i-self-2-2
Node::change_at-overflow_add-self-then-i-self-2-2 t c = omega (arith, chars_are _ _ _ _ (sym (ap (λ n. n.blocks) c.self.view_is)) c.self.invariant.own_is, c.change-done.ensures.chars, c.len-then-i-self-2.ensures.len, c.requires.chars_fit)

pub Node::change_at-invariant_of-self-then-i-self-2 : goal.Node::change_at-invariant_of-self-then-i-self-2
Node::change_at-invariant_of-self-then-i-self-2 t c =
    let s = c.self.inside in
    let v = c.self.invariant in
    sound_again s.left s.right s.left s.right s.block c.change-done.new.self s.front s.end s.chars s.front (s.front + c.len-then-i-self-2.result) (s.front + c.len-then-i-self-2.result + (s.chars - s.end)) s.blocks s.height v
    c.len-then-i-self-2.ensures.piece v.left_are v.right_are refl refl refl refl v.front_is (omega arith) (omega arith)

pub Node::change_at-returns-then-i-self-2-clause-ok : goal.Node::change_at-returns-then-i-self-2-clause-ok
Node::change_at-returns-then-i-self-2-clause-ok t c =
    let v = c.self.invariant in
    on_ok_weaker c.change-done.result (changed_own _ _ _ _ _ c.args.i (sym (ap (λ n. n.blocks) c.self.view_is)) v.left_are v.own_is c.change-done.new.self (c.args.i - c.self.inside.front) (omega arith) (omega arith)) c.change-done.ensures.ok

pub Node::change_at-returns-then-i-self-2-clause-chars : goal.Node::change_at-returns-then-i-self-2-clause-chars
Node::change_at-returns-then-i-self-2-clause-chars t c =
    let s = c.self.inside in
    omega (arith, chars_are _ _ _ _ (sym (ap (λ n. n.blocks) c.self.view_is)) c.self.invariant.own_is, chars_are s.left.blocks s.right.blocks (s.left.blocks ++ c.change-done.new.self ∷ s.right.blocks) c.change-done.new.self refl c.len-then-i-self-2.ensures.piece, c.change-done.ensures.chars)

-- ---- in its right side

pub Node::change_at-change_at-done-requires-2 : goal.Node::change_at-change_at-done-requires-2
Node::change_at-change_at-done-requires-2 t c =
    let s = c.self.inside in
    let v = c.self.invariant in
    let is = sym (ap (λ n. n.blocks) c.self.view_is) in
    let n = chars_are _ _ _ _ is v.own_is in
    (omega (arith, ap length is, length-append s.left.blocks (s.block ∷ s.right.blocks)), (omega (arith, n), (may_there c.args.change (there_behind _ _ _ _ c.args.i is v.left_are v.own_is (c.args.i - s.end) (omega arith)) c.requires.may, omega (arith, n))))

pub Node::change_at-overflow_add-self-2 : goal.Node::change_at-overflow_add-self-2
Node::change_at-overflow_add-self-2 t c = omega (arith, chars_are _ _ _ _ (sym (ap (λ n. n.blocks) c.self.view_is)) c.self.invariant.own_is, c.change_at-done-2.ensures.chars, c.chars.ensures.chars, c.requires.chars_fit)

pub Node::change_at-invariant_of-self-2 : goal.Node::change_at-invariant_of-self-2
Node::change_at-invariant_of-self-2 t c =
    let s = c.self.inside in
    let v = c.self.invariant in
    let e = c.change_at-done-2.ensures in
    sound_again s.left s.right s.left c.change_at-done-2.new.self s.block s.block s.front s.end s.chars s.front s.end (s.end + c.chars.result) s.blocks s.height v
    v.own_is v.left_are c.chars.ensures.pieces refl refl e.count e.height v.front_is v.end_is (omega arith)

pub Node::change_at-returns-clause-ok : goal.Node::change_at-returns-clause-ok
Node::change_at-returns-clause-ok t c =
    let v = c.self.invariant in
    on_ok_weaker c.change_at-done-2.result (changed_right _ _ _ _ _ c.args.i (sym (ap (λ n. n.blocks) c.self.view_is)) v.left_are v.own_is c.change_at-done-2.new.self.blocks (c.args.i - c.self.inside.end) (omega arith)) c.change_at-done-2.ensures.ok

pub Node::change_at-returns-clause-chars : goal.Node::change_at-returns-clause-chars
Node::change_at-returns-clause-chars t c =
    let s = c.self.inside in
    let v = c.self.invariant in
    omega (arith, chars_are _ _ _ _ (sym (ap (λ n. n.blocks) c.self.view_is)) v.own_is, chars_are s.left.blocks c.change_at-done-2.new.self.blocks (s.left.blocks ++ s.block ∷ c.change_at-done-2.new.self.blocks) s.block refl v.own_is, c.change_at-done-2.ensures.chars)
