use Rattle.std.proofs.Common.{length, slice_index_or, sym, ap, ◌∙◌, arith}
use Rattle.rls_ops.proofs.KeptRows.{row_length}
use Rattle.rls_parts.proofs.rows.row_fault.Goals as goal

pub is_row_of-requires-clause-counts : goal.is_row_of-requires-clause-counts
is_row_of-requires-clause-counts c =
    let rows = c.as_slice-rows.ensures.items in
    let l = c.loop-i-test.true in
    let e = ap length rows in
    ap length (c.index-rows-i.is)
    ∙ (ap (λ vs. length (slice_index_or vs c.loop-i.i c.index-rows-i.result)) rows
    ∙ (row_length c.args.parts.now.members c.args.parts.now.rows c.loop-i.i c.index-rows-i.result c.requires.given.rows_counts (omega arith) ∙ sym c.requires.given.vector))
