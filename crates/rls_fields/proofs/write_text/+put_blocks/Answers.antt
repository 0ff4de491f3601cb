use Rattle.std.proofs.Common.{subst}
use Rattle.std.specs.Prelude.{All, List}
use Rattle.std.proofs.lemmas.List.Elements.{All-nil}
use Rattle.rls_blocks.specs.Trees.{Piece}
use Rattle.rls_parts.specs.Blocks.{runs_with_texts}
use Rattle.rls_fields.specs.Written.{FitsChars}
use Rattle.rls_fields.proofs.Puts.{blocks_fit}
use Rattle.rls_fields.proofs.write_text.+put_blocks.Goals as goal
use Rattle.rls_fields.proofs.write_text.+put_blocks.Goals.{in-Some+in_ok-put_blocks, in_default}

pub returns-in_ok-put_blocks-2-clause-fits : goal.returns-in_ok-put_blocks-2-clause-fits
returns-in_ok-put_blocks-2-clause-fits t c =
    let node = c.args.node.now in
    let left : All FitsChars (runs_with_texts node.left.blocks) = elim c.match-left.branch [
      | in-Some+in_ok-put_blocks w ↦ subst (λ (bs : List Piece). All FitsChars (runs_with_texts bs)) w.in-Some.ensures.blocks w.in_ok-put_blocks.ensures.fits
      | in_default w ↦ rw w.in_default.ensures.empty (All-nil FitsChars)
    ] in
    blocks_fit node.blocks node.left.blocks node.right.blocks node.block c.run-run.ensures.blocks left
    (subst (λ r. FitsChars (record { run = r; text = node.block.1 })) c.run-run.ensures.run (subst (λ cs. FitsChars (record { run = c.run-run.result.now; text = cs })) c.text-text.ensures.text c.in_ok-put_text_run.ensures.fits))
    (subst (λ (bs : List Piece). All FitsChars (runs_with_texts bs)) c.in-Some-right.ensures.blocks c.in_ok-put_blocks-2.ensures.fits)
