use Rattle.std.proofs.Common.{◌≡◌, ◌+◌, ◌≤◌, take, drop, length, sym, ap, ◌∙◌, arith}
use Rattle.std.specs.Prelude.{pos}
use Rattle.rls_ident.specs.Identifiers.{shifted}
use Rattle.rls_blocks.specs.Trees.{Piece, piece_entries, entries_of}
use Rattle.rls_blocks.specs.Edits.{part_of}
use Rattle.rls_blocks.proofs.AtPlaces.{part_at, part_many}
use Rattle.rls_tree.proofs.Puts.{part_taken}
use Rattle.rls_tree.proofs.tree.BlockTree.stretch.Goals as goal

pub returns : goal.returns
returns c =
    let b = c.locate-at.result.0.now in
    let j = c.locate-at.result.1 in
    let i = c.args.i in
    let n = c.min-len.result in
    let m : length b.1 ≡ b.0.1 = c.len.ensures.piece.as_many in
    let short : j + n ≤ b.0.1 = omega (arith, m, c.len.ensures.len, c.locate-at.ensures.within, c.min-len.ensures, c.requires.some) in
    let at = part_at c.args.self.now.blocks i j n b c.chars-chars.ensures.pieces c.locate-at.ensures.located (omega (arith, c.len.ensures.len, c.locate-at.ensures.within, c.min-len.ensures, c.requires.some)) (omega (arith, c.len.ensures.len, c.locate-at.ensures.within, c.min-len.ensures, c.requires.some)) in
    let part : Piece = (c.in_ok-run.run', c.in_ok-text.text) in
    let is : part ≡ part_of j n b =
    ap (λ r. (r, c.in_ok-text.text)) (c.in_ok-run.ensures.part ∙ ap (λ q. (shifted (pos j) q.0, n)) c.run.ensures.run) ∙ ap (λ cs. ((shifted (pos j) b.0.0, n), cs)) (c.in_ok-text.ensures.part ∙ ap (λ cs. take n (drop j cs)) c.text.ensures.text) in
    let len = ap (λ q. q.0.1) is in
    let w = at.1 in
    record {
      most = omega (arith, len, c.min-len.ensures);
      some = omega (arith, len, c.len.ensures.len, c.locate-at.ensures.within, c.min-len.ensures, c.requires.some);
      as_many = ap (λ q. length q.1) is ∙ part_many b j n m short ∙ sym len;
      within = omega (arith, len, w);
      entries = ap piece_entries is ∙ part_taken b j n m short ∙ sym at.0 ∙ ap (λ q. take q.0.1 (drop i (entries_of c.args.self.now.blocks))) (sym is);
    }
