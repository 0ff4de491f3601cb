use Rattle.std.proofs.Common.{◌≡◌, ◌+◌, ◌∷◌, [], length, ap, ◌∙◌, arith, length-append}
use Rattle.rls_blocks.specs.Trees.{Piece, entries_of}
use Rattle.rls_blocks.proofs.Pieces.{chars_append}
use Rattle.rls_blocks.proofs.Cases.{single_chars}
use Rattle.rls_blocks.proofs.build.+tree_of_last.Goals as goal

-- what is left after the last blocks were taken
pub tree_of_last-requires-2 : goal.tree_of_last-requires-2
tree_of_last-requires-2 t c =
    let old = c.args.blocks.now.items in
    let mid = c.tree_of_last.new.blocks.items in
    let new = c.pop.new.self.items in
    let last = c.in-Some.block ∷ [] in
    let right = c.in_ok-right.right.blocks in
    let count : length old ≡ length mid + length right = ap length c.in_ok-right.ensures.blocks ∙ length-append mid right in
    let chars : length (entries_of old) ≡ length (entries_of mid) + length (entries_of right) = ap (λ bs. length (entries_of bs)) c.in_ok-right.ensures.blocks ∙ chars_append mid right in
    let one : length mid ≡ length new + 1 = ap length c.in-Some.ensures.items ∙ length-append new last in
    let fewer : length (entries_of mid) ≡ length (entries_of new) + length (entries_of last) = ap (λ bs. length (entries_of bs)) c.in-Some.ensures.items ∙ chars_append new last in
    let within = c.requires.within in
    let fit = c.requires.chars_fit in
    let behind = c.in_ok-right.ensures.count in
    let before = c.decreases in
    (omega arith, (omega arith, omega arith))

pub join-requires : goal.join-requires
join-requires t c =
    let old = c.args.blocks.now.items in
    let mid = c.tree_of_last.new.blocks.items in
    let new = c.pop.new.self.items in
    let block = c.in-Some.block in
    let right = c.in_ok-right.right.blocks in
    let left = c.in_ok-left.left.blocks in
    let all = ap (λ bs. length (entries_of bs)) c.in_ok-right.ensures.blocks ∙ chars_append mid right in
    let fewer = ap (λ bs. length (entries_of bs)) c.in-Some.ensures.items ∙ chars_append new (block ∷ []) in
    let rest = ap (λ bs. length (entries_of bs)) c.in_ok-left.ensures.blocks ∙ chars_append c.tree_of_last-2.new.blocks.items left in
    let own = single_chars c.in_ok-node.node c.in_ok-node.ensures.piece in
    let same = ap (λ (b : Piece). length (entries_of (b ∷ []))) c.in_ok-node.ensures.block in
    record { chars_fit = omega (arith, all, fewer, rest, own, same, c.requires.chars_fit) }
