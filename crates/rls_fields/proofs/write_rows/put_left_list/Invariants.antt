use Rattle.std.proofs.Common.{◌≡◌, ◌++◌}
use Rattle.std.specs.List.{flat_map}
use Rattle.rls_ops.specs.Spelling.{four_bytes}
use Rattle.rls_seen.specs.Kept.{left_below}
use Rattle.rls_fields.proofs.write_rows.put_left_list.Given as goal

abbrev pub invariant-loop-member : goal.invariant-loop-member
invariant-loop-member l = l.out.items ≡ l.fn.out.items ++ flat_map four_bytes (left_below l.acks l.member)
