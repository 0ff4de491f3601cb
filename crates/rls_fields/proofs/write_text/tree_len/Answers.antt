use Rattle.std.proofs.Common.{◌-◌, ◌^◌, ◌∙◌, List, min, sum_by, ap}
use Rattle.rls_model.specs.declared.parts.TextRun.{TextRun}
use Rattle.rls_blocks.specs.Trees.{Piece}
use Rattle.rls_parts.specs.Blocks.{runs_with_texts}
use Rattle.rls_parts.proofs.MaximalRuns.{blocks_are}
use Rattle.rls_fields.specs.FieldSizes.{text_run_size}
use Rattle.rls_fields.proofs.write_text.tree_len.Goals as goal

pub returns-in-Some : goal.returns-in-Some
returns-in-Some c = record {
  size =
      c.blocks_len.ensures.size
      ∙ ap (λ (bs : List Piece). min (sum_by text_run_size (runs_with_texts bs)) (2 ^ 64 - 1)) c.in-Some.ensures.blocks
      ∙ ap (λ (rs : List TextRun). min (sum_by text_run_size rs) (2 ^ 64 - 1)) (blocks_are c.args.tree.now.blocks c.root.ensures.apart c.root.ensures.pieces);
}
