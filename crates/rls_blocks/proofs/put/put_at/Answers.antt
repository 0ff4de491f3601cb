use Rattle.std.proofs.Common.{length, ap, arith}
use Rattle.rls_blocks.specs.Trees.{Piece, entries_of}
use Rattle.rls_blocks.proofs.OneMore.{put_chars}
use Rattle.rls_blocks.proofs.put.put_at.Goals as goal

pub returns-in-Ok-put_after-clause-chars : goal.returns-in-Ok-put_after-clause-chars
returns-in-Ok-put_after-clause-chars c =
    let put = ap (λ bs. length (entries_of bs)) c.in-Ok-put_after.ensures.ok in
    let new = ap (λ (b : Piece). length b.1) c.in-Ok.ensures.block in
    omega (arith, put, new, put_chars c.in-Ok.new c.args.link.blocks c.args.i c.in-Ok.ensures.piece c.chars-chars.ensures.pieces c.requires.place)
