use Rattle.std.proofs.Common.{◌≡◌, suc, ◌+◌, ◌∷◌, [], ◌++◌, length, take, sym, ap, ◌∙◌, arith}
use Rattle.std.proofs.lemmas.List.{take_all}
use Rattle.std.proofs.lemmas.Option.{slice_get-get_or}
use Rattle.std.proofs.lemmas.Result.{IfOk-weaker}
use Rattle.rls_blocks.specs.Trees.{entries_of}
use Rattle.rls_blocks.specs.Rests.{parts_of}
use Rattle.rls_blocks.proofs.Rests.{part_got, parts_most, parts_next, parts_take}
use Rattle.rls_blocks.proofs.rest.copies.Goals as goal

pub part-requires-clause-some : goal.part-requires-clause-some
part-requires-clause-some c =
    let ps = c.args.parts.now in
    let i = c.loop-part.part-index in
    (part_got ps i 0 c.args.block.now.0.1 _ (slice_get-get_or ps i (record { at = 0; len = 0 }) c.loop-part-test.true) c.requires.parts).0

pub part-requires-clause-within : goal.part-requires-clause-within
part-requires-clause-within c =
    let ps = c.args.parts.now in
    let i = c.loop-part.part-index in
    (part_got ps i 0 c.args.block.now.0.1 _ (slice_get-get_or ps i (record { at = 0; len = 0 }) c.loop-part-test.true) c.requires.parts).1

pub loop-part-preserved : goal.loop-part-preserved
loop-part-preserved c =
    let ps = c.args.parts.now in
    let i = c.loop-part.part-index in
    let b = c.args.block.now in
    let n : suc i ≡ i + 1 = omega arith in
    let next = parts_next ps i _ b (slice_get-get_or ps i (record { at = 0; len = 0 }) c.loop-part-test.true) ∙ ap (λ q. parts_of (take i ps) b ++ q ∷ []) (sym c.in_ok-part.ensures.part) in
    record { copied = c.in_ok-push.ensures.items ∙ ap (λ bs. bs ++ c.in_ok-part.field-0 ∷ []) c.loop-part.invariant.copied ∙ sym next ∙ ap (λ k. parts_of (take k ps) b) n }

pub tree_of-requires : goal.tree_of-requires
tree_of-requires c =
    let ps = c.args.parts.now in
    let b = c.args.block.now in
    let m = c.len-len.ensures.piece.as_many in
    let e = ap (λ bs. length (entries_of bs)) c.loop-part.invariant.copied in
    let l = parts_most (take c.loop-part.part-index ps) 0 b m (parts_take c.loop-part.part-index ps 0 b.0.1 c.requires.parts) in
    record { chars_fit = omega (arith, e, l, m, c.len-len.ensures.len) }

pub returns : goal.returns
returns c =
    let all = c.loop-part.invariant.copied ∙ ap (λ xs. parts_of xs c.args.block.now) (take_all c.loop-part.part-index c.args.parts.now c.loop-part-test.false) in
    record { blocks = IfOk-weaker c.tree_of.result _ _ (λ link h. h ∙ all) c.tree_of.ensures.blocks }
