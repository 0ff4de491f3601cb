use Rattle.std.proofs.Common.{◌+◌, ◌-◌, ◌∷◌, ◌++◌, length, ap, ◌∙◌, arith}
use Rattle.std.proofs.lemmas.Result.{on_ok_weaker}
use Rattle.rls_blocks.specs.Trees.{entries_of}
use Rattle.rls_blocks.proofs.Pieces.{piece_some, count_most}
use Rattle.rls_blocks.proofs.Changed.{sound_of}
use Rattle.rls_blocks.proofs.OneMore.{node_chars, node_count, node_front, node_end, left_most, right_most, put_left, put_right}
use Rattle.rls_blocks.proofs.node.Link.+put_after.Goals as goal
use Rattle.rls_blocks.proofs.node.Link.+put_after.Goals.{put_left-then-high-inner-via-then-high-inner, put_left-then-high-inner-via-else-high-inner+then-high-height}
use Rattle.rls_blocks.proofs.node.Link.+put_after.Goals.{put_right-then-high-inner-via-then-high-inner, put_right-then-high-inner-via-else-high-inner+then-high-height}

-- ---- in its left side

pub put_left-put_after-done-requires : goal.put_left-put_after-done-requires
put_left-put_after-done-requires t c = (omega (arith, node_count c.inner.inside c.inner.invariant c.args.node.value (c.inner.view_is ∙ c.deref_mut-inner.ensures.value)), (omega (arith, c.requires.place, c.inner.invariant.front_is, node_front c.inner.inside c.inner.invariant c.args.node.value (c.inner.view_is ∙ c.deref_mut-inner.ensures.value)), omega (arith, node_chars c.inner.inside c.inner.invariant c.args.node.value (c.inner.view_is ∙ c.deref_mut-inner.ensures.value), c.requires.chars_fit)))

pub put_left-overflow_add-inner : goal.put_left-overflow_add-inner
put_left-overflow_add-inner t c = omega (arith, left_most c.inner.inside c.inner.invariant c.args.node.value (c.inner.view_is ∙ c.deref_mut-inner.ensures.value) c.args.new c.args.i c.put_after-done.new.self.blocks c.put_after-done.result c.len-new.ensures.piece c.requires.place c.put_after-done.ensures.ok c.put_after-done.ensures.err, c.chars-inner-inside.ensures.chars, c.requires.chars_fit)

pub put_left-overflow_add-inner-then-high-inner : goal.put_left-overflow_add-inner-then-high-inner
put_left-overflow_add-inner-then-high-inner t c = omega (arith, left_most c.inner.inside c.inner.invariant c.args.node.value (c.inner.view_is ∙ c.deref_mut-inner.ensures.value) c.args.new c.args.i c.put_after-done.new.self.blocks c.put_after-done.result c.len-new.ensures.piece c.requires.place c.put_after-done.ensures.ok c.put_after-done.ensures.err, c.chars-inner-inside.ensures.chars, c.requires.chars_fit)

pub put_left-overflow_add-inner-then-high-inner-2 : goal.put_left-overflow_add-inner-then-high-inner-2
put_left-overflow_add-inner-then-high-inner-2 t c = omega (arith, left_most c.inner.inside c.inner.invariant c.args.node.value (c.inner.view_is ∙ c.deref_mut-inner.ensures.value) c.args.new c.args.i c.put_after-done.new.self.blocks c.put_after-done.result c.len-new.ensures.piece c.requires.place c.put_after-done.ensures.ok c.put_after-done.ensures.err, c.chars-inner-inside.ensures.chars, c.chars-inner-inside.ensures.most, c.blocks-2.ensures.blocks, c.blocks-then-high-inner.ensures.blocks, c.inner.invariant.count_is, count_most c.inner.inside.right.blocks c.inner.invariant.right_are, piece_some c.inner.inside.block c.inner.invariant.own_is, c.requires.chars_fit)

pub put_left-invariant_of-inner : goal.put_left-invariant_of-inner
put_left-invariant_of-inner t c =
    let s = c.inner.inside in
    let v = c.inner.invariant in
    let e = c.put_after-done.ensures in
    sound_of c.put_after-done.new.self s.right s.block c.chars-inner-inside.result (c.chars-inner-inside.result + (s.end - s.front)) (c.chars-inner-inside.result + (s.end - s.front) + (s.chars - s.end)) (s.blocks - c.blocks-2.result + c.blocks-then-high-inner.result) c.max-inner-inside.result
    v.own_is c.chars-inner-inside.ensures.pieces v.right_are c.height-high.ensures.low v.right_low (elim c.then-high-inner.branch [ put_left-then-high-inner-via-then-high-inner w ↦ omega (arith, w.if-high-inner.true, c.height-high.ensures.height, v.height_is, v.left_not_higher, v.right_not_higher) | put_left-then-high-inner-via-else-high-inner+then-high-height w ↦ omega (arith, w.if-high-height.true, w.height.ensures.height, c.height-high.ensures.height) ]) (omega (arith, v.right_not_higher, e.not_lower)) c.chars-inner-inside.ensures.chars (omega (arith, v.end_is)) (omega (arith, v.sum_is)) (omega (arith, v.count_is, c.blocks-2.ensures.blocks, c.blocks-then-high-inner.ensures.blocks)) (omega (arith, c.max-inner-inside.ensures, c.height-high.ensures.height, v.height_is, e.not_lower))

pub put_left-returns-then-high-inner-clause-ok : goal.put_left-returns-then-high-inner-clause-ok
put_left-returns-then-high-inner-clause-ok t c = on_ok_weaker c.put_after-done.result (λ e. c.to.ensures.blocks ∙ put_left c.inner.inside c.inner.invariant c.args.node.value (c.inner.view_is ∙ c.deref_mut-inner.ensures.value) c.args.new c.args.i c.put_after-done.new.self.blocks c.requires.place e) c.put_after-done.ensures.ok

pub put_left-join-requires : goal.put_left-join-requires
put_left-join-requires t c = record { chars_fit = omega (arith, ap (λ t. length (entries_of t.blocks)) c.replace-left.ensures.value, ap (λ t. length (entries_of t.blocks)) c.replace-right.ensures.value, left_most c.inner.inside c.inner.invariant c.args.node.value (c.inner.view_is ∙ c.deref_mut-inner.ensures.value) c.args.new c.args.i c.put_after-done.new.self.blocks c.put_after-done.result c.len-new.ensures.piece c.requires.place c.put_after-done.ensures.ok c.put_after-done.ensures.err, c.requires.chars_fit) }

pub put_left-returns-clause-ok : goal.put_left-returns-clause-ok
put_left-returns-clause-ok t c =
    let left = ap (λ t. t.blocks ++ c.inner.inside.block ∷ c.replace-right.result.blocks) c.replace-left.ensures.value in
    let right = ap (λ t. c.put_after-done.new.self.blocks ++ c.inner.inside.block ∷ t.blocks) c.replace-right.ensures.value in
    on_ok_weaker c.put_after-done.result (λ e. c.join.ensures.blocks ∙ left ∙ right ∙ put_left c.inner.inside c.inner.invariant c.args.node.value (c.inner.view_is ∙ c.deref_mut-inner.ensures.value) c.args.new c.args.i c.put_after-done.new.self.blocks c.requires.place e) c.put_after-done.ensures.ok

-- ---- in its right side

pub put_right-put_after-done-requires : goal.put_right-put_after-done-requires
put_right-put_after-done-requires t c = (omega (arith, node_count c.inner.inside c.inner.invariant c.args.node.value (c.inner.view_is ∙ c.deref_mut-inner.ensures.value)), (omega (arith, c.requires.place, c.requires.behind, c.inner.invariant.front_is, c.inner.invariant.end_is, node_end c.inner.inside c.inner.invariant c.args.node.value (c.inner.view_is ∙ c.deref_mut-inner.ensures.value), node_chars c.inner.inside c.inner.invariant c.args.node.value (c.inner.view_is ∙ c.deref_mut-inner.ensures.value)), omega (arith, node_chars c.inner.inside c.inner.invariant c.args.node.value (c.inner.view_is ∙ c.deref_mut-inner.ensures.value), c.requires.chars_fit)))

pub put_right-overflow_add-inner : goal.put_right-overflow_add-inner
put_right-overflow_add-inner t c = omega (arith, right_most c.inner.inside c.inner.invariant c.args.node.value (c.inner.view_is ∙ c.deref_mut-inner.ensures.value) c.args.new c.args.i c.put_after-done.new.self.blocks c.put_after-done.result (c.args.i - c.inner.inside.end) c.len-new.ensures.piece (omega (arith, c.requires.behind, node_end c.inner.inside c.inner.invariant c.args.node.value (c.inner.view_is ∙ c.deref_mut-inner.ensures.value))) c.requires.place c.put_after-done.ensures.ok c.put_after-done.ensures.err, c.chars.ensures.chars, c.requires.chars_fit)

pub put_right-overflow_add-inner-then-high-inner : goal.put_right-overflow_add-inner-then-high-inner
put_right-overflow_add-inner-then-high-inner t c = omega (arith, right_most c.inner.inside c.inner.invariant c.args.node.value (c.inner.view_is ∙ c.deref_mut-inner.ensures.value) c.args.new c.args.i c.put_after-done.new.self.blocks c.put_after-done.result (c.args.i - c.inner.inside.end) c.len-new.ensures.piece (omega (arith, c.requires.behind, node_end c.inner.inside c.inner.invariant c.args.node.value (c.inner.view_is ∙ c.deref_mut-inner.ensures.value))) c.requires.place c.put_after-done.ensures.ok c.put_after-done.ensures.err, c.chars.ensures.chars, c.chars.ensures.most, c.blocks-2.ensures.blocks, c.blocks-then-high-inner.ensures.blocks, c.inner.invariant.count_is, count_most c.inner.inside.left.blocks c.inner.invariant.left_are, piece_some c.inner.inside.block c.inner.invariant.own_is, c.requires.chars_fit)

pub put_right-invariant_of-inner : goal.put_right-invariant_of-inner
put_right-invariant_of-inner t c =
    let s = c.inner.inside in
    let v = c.inner.invariant in
    let e = c.put_after-done.ensures in
    sound_of s.left c.put_after-done.new.self s.block s.front s.end (s.end + c.chars.result) (s.blocks - c.blocks-2.result + c.blocks-then-high-inner.result) c.max-inner-inside.result
    v.own_is v.left_are c.chars.ensures.pieces v.left_low c.height-high.ensures.low (omega (arith, v.left_not_higher, e.not_lower)) (elim c.then-high-inner.branch [ put_right-then-high-inner-via-then-high-inner w ↦ omega (arith, w.if-high-inner.true, c.height-high.ensures.height, v.height_is, v.left_not_higher, v.right_not_higher) | put_right-then-high-inner-via-else-high-inner+then-high-height w ↦ omega (arith, w.if-high-height.true, w.height.ensures.height, c.height-high.ensures.height) ]) v.front_is v.end_is (omega (arith, c.chars.ensures.chars)) (omega (arith, v.count_is, c.blocks-2.ensures.blocks, c.blocks-then-high-inner.ensures.blocks)) (omega (arith, c.max-inner-inside.ensures, c.height-high.ensures.height, v.height_is, e.not_lower))

pub put_right-returns-then-high-inner-clause-ok : goal.put_right-returns-then-high-inner-clause-ok
put_right-returns-then-high-inner-clause-ok t c = on_ok_weaker c.put_after-done.result (λ e. c.to.ensures.blocks ∙ put_right c.inner.inside c.inner.invariant c.args.node.value (c.inner.view_is ∙ c.deref_mut-inner.ensures.value) c.args.new c.args.i c.put_after-done.new.self.blocks (c.args.i - c.inner.inside.end) (omega (arith, c.requires.behind, node_end c.inner.inside c.inner.invariant c.args.node.value (c.inner.view_is ∙ c.deref_mut-inner.ensures.value))) e) c.put_after-done.ensures.ok

pub put_right-join-requires : goal.put_right-join-requires
put_right-join-requires t c = record { chars_fit = omega (arith, ap (λ t. length (entries_of t.blocks)) c.replace-left.ensures.value, ap (λ t. length (entries_of t.blocks)) c.replace-right.ensures.value, right_most c.inner.inside c.inner.invariant c.args.node.value (c.inner.view_is ∙ c.deref_mut-inner.ensures.value) c.args.new c.args.i c.put_after-done.new.self.blocks c.put_after-done.result (c.args.i - c.inner.inside.end) c.len-new.ensures.piece (omega (arith, c.requires.behind, node_end c.inner.inside c.inner.invariant c.args.node.value (c.inner.view_is ∙ c.deref_mut-inner.ensures.value))) c.requires.place c.put_after-done.ensures.ok c.put_after-done.ensures.err, c.requires.chars_fit) }

pub put_right-returns-clause-ok : goal.put_right-returns-clause-ok
put_right-returns-clause-ok t c =
    let left = ap (λ t. t.blocks ++ c.inner.inside.block ∷ c.replace-right.result.blocks) c.replace-left.ensures.value in
    let right = ap (λ t. c.inner.inside.left.blocks ++ c.inner.inside.block ∷ t.blocks) c.replace-right.ensures.value in
    on_ok_weaker c.put_after-done.result (λ e. c.join.ensures.blocks ∙ left ∙ right ∙ put_right c.inner.inside c.inner.invariant c.args.node.value (c.inner.view_is ∙ c.deref_mut-inner.ensures.value) c.args.new c.args.i c.put_after-done.new.self.blocks (c.args.i - c.inner.inside.end) (omega (arith, c.requires.behind, node_end c.inner.inside c.inner.invariant c.args.node.value (c.inner.view_is ∙ c.deref_mut-inner.ensures.value))) e) c.put_after-done.ensures.ok
