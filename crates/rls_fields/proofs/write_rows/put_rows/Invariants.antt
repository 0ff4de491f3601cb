use Rattle.std.proofs.Common.{◌≡◌, ◌++◌}
use Rattle.std.specs.List.{flat_map}
use Rattle.rls_ops.specs.Spelling.{vector_bytes}
use Rattle.rls_seen.specs.Kept.{other_rows}
use Rattle.std.specs.Prelude.{All}
use Rattle.rls_fields.specs.Written.{FitsRow}
use Rattle.rls_fields.proofs.write_rows.put_rows.Given as goal

abbrev pub invariant-loop-member : goal.invariant-loop-member
invariant-loop-member l = record {
  bytes : l.out.items ≡ l.fn.out.items ++ flat_map vector_bytes (other_rows l.acks l.member);
  fits : All FitsRow (other_rows l.acks l.member);
}
