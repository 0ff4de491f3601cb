use Rattle.std.proofs.Common.{sym, ap, ◌∙◌, Some, get_or}
use Rattle.rls_blocks.specs.Trees.{entries_of}
use Rattle.rls_blocks.proofs.AtPlaces.{entry_located}
use Rattle.rls_tree.proofs.Located.{mapped_at, entry_at}
use Rattle.rls_tree.proofs.tree.BlockTree.char.Goals as goal

pub returns : goal.returns
returns c =
    let b = c.locate-at.result.0.now in
    let j = c.locate-at.result.1 in
    let e = entry_located c.args.self.now.blocks c.args.i j b c.chars-chars.ensures.pieces c.locate-at.ensures.located ∙ entry_at b j c.text.ensures.piece c.locate-at.ensures.within in
    record { char = mapped_at (λ u. u.1) (entries_of c.args.self.now.blocks) c.args.i _ e ∙ ap Some (sym (c.get.ensures.char ∙ ap (λ xs. get_or xs j 0) c.text.ensures.text)) }
