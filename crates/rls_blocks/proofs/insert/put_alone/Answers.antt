use Rattle.std.proofs.Common.{◌≡◌, ◌++◌, ◌∷◌, ◌-◌, ◌<◌, false, length, sym, ap, ◌∙◌, subst, arith}
use Rattle.std.proofs.lemmas.Result.{IfOk-weaker}
use Rattle.rls_blocks.specs.Trees.{Piece, entries_of, piece_entries}
use Rattle.rls_blocks.specs.Edits.{located, ends_with, put_among, inserted, Shows}
use Rattle.rls_blocks.proofs.Placed.{around}
use Rattle.rls_blocks.proofs.Insertions.{before_there, behind_shows, first_shows}
use Rattle.rls_blocks.proofs.insert.put_alone.Goals as goal

pub returns-then-i-gt0-clause-ok : goal.returns-then-i-gt0-clause-ok
returns-then-i-gt0-clause-ok c =
    let bs = c.args.link.blocks in
    let i = c.args.i in
    let n : Piece = ((c.args.first.now, length c.args.text.now), c.args.text.now) in
    let some : 0 < i = omega arith in
    let r = around bs (i - 1) c.chars-chars.ensures.pieces (omega arith) in
    let ends : ends_with (located bs (i - 1)) n.0.0 ≡ false = ap (λ p. ends_with p n.0.0) (sym (before_there bs i some)) ∙ c.requires.ends in
    let shows = behind_shows bs n (i - 1) r c.requires.piece c.requires.loose i (omega arith) c.requires.begins c.requires.rises ends in
    let put = ap (λ (q : Piece). put_among q bs (i - 1)) c.in-Ok.ensures.block in
    IfOk-weaker c.put_at.result _ _ (λ new h. subst (Shows (inserted i (piece_entries n) (entries_of bs))) (sym (h ∙ put)) shows) c.put_at.ensures.ok

pub returns-in-Ok-new-clause-ok : goal.returns-in-Ok-new-clause-ok
returns-in-Ok-new-clause-ok c =
    let bs = c.args.link.blocks in
    let n : Piece = ((c.args.first.now, length c.args.text.now), c.args.text.now) in
    let piece = c.in-Ok-new.ensures.block ∙ c.in-Ok.ensures.block in
    let new : c.join.result.blocks ≡ n ∷ bs = c.join.ensures.blocks ∙ ap (λ t. t.blocks ++ c.in-Ok-new.new ∷ bs) c.empty.ensures.empty ∙ ap (λ (b : Piece). b ∷ bs) piece in
    subst (Shows (inserted c.args.i (piece_entries n) (entries_of bs))) (sym new) (first_shows bs n c.args.i (omega arith) c.chars-chars.ensures.pieces c.requires.loose c.requires.begins)
