use Rattle.std.proofs.Common.{◌∙◌, ◌++◌, List, ap}
use Rattle.rls_model.specs.declared.parts.TextRun.{TextRun}
use Rattle.rls_blocks.specs.Trees.{Piece}
use Rattle.rls_parts.specs.Blocks.{runs_with_texts}
use Rattle.rls_parts.proofs.MaximalRuns.{blocks_are}
use Rattle.rls_parts.proofs.maximal_runs.text_runs.Goals as goal

pub returns : goal.returns
returns c = record {
  runs =
      c.in_ok-push_blocks.ensures.ok
      ∙ (ap (λ (rs : List TextRun). rs ++ runs_with_texts c.in-Some.root.now.blocks) c.new-runs.ensures.empty
      ∙ (ap (λ (bs : List Piece). runs_with_texts bs) c.in-Some.ensures.blocks ∙ blocks_are c.args.tree.now.blocks c.root.ensures.apart c.root.ensures.pieces));
}
