use Rattle.std.proofs.Common.{length-append, [], length, sym, ap, ◌∙◌, ◌∷◌, ◌-◌, ◌+◌, arith}
use Rattle.rls_blocks.specs.Trees.{entries_of}
use Rattle.rls_blocks.proofs.Pieces.{node_length, piece_length}
use Rattle.rls_blocks.proofs.Cases.{one_length}
use Rattle.rls_blocks.specs.Edits.{located}
use Rattle.rls_blocks.proofs.AtPlaces.{located_front, located_behind, located_here}
use Rattle.rls_blocks.proofs.node.Node.+locate.Goals as goal

pub returns-then-i-self-clause-located : goal.returns-then-i-self-clause-located
returns-then-i-self-clause-located t c =
    sym (ap (λ s. located s.blocks c.args.i) c.self.view_is)
    ∙ located_front c.self.inside.left.blocks (c.self.inside.block ∷ c.self.inside.right.blocks) c.args.i c.self.invariant.left_are (omega arith)
    ∙ sym (ap (λ bs. located bs c.args.i) c.in-Some.ensures.blocks)
    ∙ c.locate.ensures.located

pub returns-then-i-self-2-clause-located : goal.returns-then-i-self-2-clause-located
returns-then-i-self-2-clause-located t c =
    let j = c.args.i - c.self.inside.front in
    sym (ap (λ s. located s.blocks c.args.i) c.self.view_is)
    ∙ located_behind c.self.inside.left.blocks (c.self.inside.block ∷ c.self.inside.right.blocks) c.args.i j c.self.invariant.left_are (omega arith)
    ∙ located_here c.self.inside.block c.self.inside.right.blocks j (omega arith)

pub unreachable-requires-in_default-node : goal.unreachable-requires-in_default-node
unreachable-requires-in_default-node t c =
    let n = node_length c.self.inside.left.blocks c.self.inside.right.blocks c.self.inside.block c.self.invariant.own_is in
    let v = ap (λ s. length (entries_of s.blocks)) c.self.view_is in
    let r = ap (λ t. length (entries_of t.blocks)) c.in_default-node.ensures.empty in
    omega (arith, n, v, r)

pub locate-requires-2 : goal.locate-requires-2
locate-requires-2 t c =
    let n = node_length c.self.inside.left.blocks c.self.inside.right.blocks c.self.inside.block c.self.invariant.own_is in
    let v = ap (λ s. length (entries_of s.blocks)) c.self.view_is in
    let d = ap (λ bs. length (entries_of bs)) c.in-Some-node.ensures.blocks in
    let m = ap (λ s. length s.blocks) c.self.view_is in
    let a = length-append c.self.inside.left.blocks (c.self.inside.block ∷ c.self.inside.right.blocks) in
    let e = ap length c.in-Some-node.ensures.blocks in
    (omega (arith, m, a, e), omega (arith, n, v, d))

pub returns-clause-located : goal.returns-clause-located
returns-clause-located t c =
    let b = c.self.inside.block in
    let n = length b.1 in
    let j = c.args.i - c.self.inside.end in
    sym (ap (λ s. located s.blocks c.args.i) c.self.view_is)
    ∙ located_behind c.self.inside.left.blocks (b ∷ c.self.inside.right.blocks) c.args.i (n + j) c.self.invariant.left_are (omega arith)
    ∙ located_behind (b ∷ []) c.self.inside.right.blocks (n + j) j (c.self.invariant.own_is, tt) (let l = piece_length b c.self.invariant.own_is in let m = one_length b in omega (arith, l, m))
    ∙ sym (ap (λ bs. located bs j) c.in-Some-node.ensures.blocks)
    ∙ c.locate-2.ensures.located
