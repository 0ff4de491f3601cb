use Rattle.std.proofs.Common.{◌≡◌, ◌-◌, ◌^◌, min, sum_by}
use Rattle.rls_fields.specs.FieldSizes.{row_size}
use Rattle.rls_seen.specs.Kept.{other_rows}
use Rattle.rls_fields.proofs.write_rows.other_rows_len.Given as goal

abbrev pub invariant-loop-member : goal.invariant-loop-member
invariant-loop-member l = l.total ≡ min (sum_by row_size (other_rows l.acks l.member)) (2 ^ 64 - 1)
