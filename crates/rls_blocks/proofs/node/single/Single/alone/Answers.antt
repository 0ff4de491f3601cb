use Rattle.std.proofs.Common.{length, ap, ◌∙◌}
use Rattle.rls_blocks.specs.Trees.{Piece, entries_of}
use Rattle.rls_blocks.proofs.Cases.{single_chars}
use Rattle.rls_blocks.proofs.node.single.Single.alone.Goals as goal

pub returns-clause-chars : goal.returns-clause-chars
returns-clause-chars c =
    ap (λ bs. length (entries_of bs)) (c.to.ensures.blocks ∙ c.self.invariant.only) ∙ single_chars c.self.inside.node.value.block c.self.invariant.piece ∙ ap (λ (b : Piece). length b.1) c.self.view_is
