use Rattle.std.proofs.Common.{◌≡◌, ◌++◌, List, [], ◌∷◌, length, sym, ap, arith, length-append}
use Rattle.rls_blocks.specs.Trees.{Piece}
use Rattle.rls_blocks.proofs.build.tree_of.Goals as goal

none_left : (rest root bs : List Piece) → bs ≡ rest ++ root → length root ≡ length bs → bs ≡ root
none_left [] root bs e n = e
none_left (b ∷ rest) root bs e n = absurd (omega (arith, ap length e, length-append (b ∷ rest) root, n))

pub returns : goal.returns
returns c =
    let rest = c.tree_of_last.new.blocks.items in
    let all = sym (none_left rest c.in_ok-link.link.blocks c.args.blocks.items c.in_ok-link.ensures.blocks (omega (arith, c.in_ok-link.ensures.count, c.len-count.ensures))) in
    record { blocks = all; pieces = c.chars-chars.ensures.pieces }
