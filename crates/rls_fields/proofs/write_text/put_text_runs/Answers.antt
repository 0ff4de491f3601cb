use Rattle.std.proofs.Common.{◌∙◌, ◌++◌, List, length, sum_by, ap, subst, arith}
use Rattle.std.specs.Prelude.{All}
use Rattle.std.specs.List.{flat_map}
use Rattle.rls_model.specs.declared.parts.TextRun.{TextRun}
use Rattle.rls_model.specs.Parts.{text_runs}
use Rattle.rls_blocks.specs.Trees.{Piece, entries_of}
use Rattle.rls_parts.specs.Blocks.{runs_with_texts}
use Rattle.rls_parts.proofs.MaximalRuns.{blocks_are}
use Rattle.rls_fields.specs.Fields.{text_run_bytes}
use Rattle.rls_fields.specs.FieldSizes.{text_run_size}
use Rattle.rls_fields.specs.Written.{FitsChars}
use Rattle.rls_fields.proofs.Puts.{counted_put, runs_within, blocks_count}
use Rattle.rls_fields.proofs.write_text.put_text_runs.Goals as goal

pub overflow_cast-block_count : goal.overflow_cast-block_count
overflow_cast-block_count c =
    let same = ap (λ (bs : List Piece). runs_with_texts bs) c.in-Some.ensures.blocks ∙ blocks_are c.args.tree.now.blocks c.root.ensures.apart c.root.ensures.pieces in
    let few = runs_within (runs_with_texts c.in-Some.root.now.blocks) in
    omega (arith, few, ap (sum_by text_run_size) same, blocks_count c.in-Some.root.now.blocks, c.requires.small, c.block_count.ensures.count)

pub put_blocks-requires : goal.put_blocks-requires
put_blocks-requires c =
    let same = ap (λ (bs : List Piece). runs_with_texts bs) c.in-Some.ensures.blocks ∙ blocks_are c.args.tree.now.blocks c.root.ensures.apart c.root.ensures.pieces in
    record { small = omega (arith, ap (sum_by text_run_size) same, c.requires.small) }

pub returns : goal.returns
returns c =
    let same = ap (λ (bs : List Piece). runs_with_texts bs) c.in-Some.ensures.blocks ∙ blocks_are c.args.tree.now.blocks c.root.ensures.apart c.root.ensures.pieces in
    let few = runs_within (runs_with_texts c.in-Some.root.now.blocks) in
    record {
      ok = counted_put text_run_bytes (text_runs (entries_of c.args.tree.now.blocks)) c.block_count.result c.args.out.now.items c.put_u32-2.new.out.items c.put_blocks.new.out.items
          (omega (arith, few, ap length same, ap (sum_by text_run_size) same, blocks_count c.in-Some.root.now.blocks, c.requires.small, c.block_count.ensures.count)) c.in_ok-put_u32.ensures.ok (c.in_ok-put_blocks.ensures.ok ∙ ap (λ (rs : List TextRun). c.put_u32-2.new.out.items ++ flat_map text_run_bytes rs) same);
      fits = subst (All FitsChars) same c.in_ok-put_blocks.ensures.fits;
    }
