use Rattle.std.proofs.Common.{sym, ap, ◌∙◌, Some}
use Rattle.std.specs.Prelude.{pos}
use Rattle.rls_ident.specs.Identifiers.{shifted}
use Rattle.rls_blocks.specs.Trees.{entries_of}
use Rattle.rls_blocks.proofs.AtPlaces.{entry_located}
use Rattle.rls_tree.proofs.Located.{mapped_at, entry_at}
use Rattle.rls_tree.proofs.tree.BlockTree.ident.Goals as goal

pub returns : goal.returns
returns c =
    let b = c.locate-at.result.0.now in
    let j = c.locate-at.result.1 in
    let e = entry_located c.args.self.now.blocks c.args.i j b c.chars-chars.ensures.pieces c.locate-at.ensures.located ∙ entry_at b j c.len-len.ensures.piece c.locate-at.ensures.within in
    record { ident = mapped_at (λ u. u.0) (entries_of c.args.self.now.blocks) c.args.i _ e ∙ ap Some (sym (c.in_ok-id.ensures.shifted ∙ ap (λ x. shifted (pos j) x) (c.first.ensures.first ∙ ap (λ r. r.0) c.run.ensures.run))) }
