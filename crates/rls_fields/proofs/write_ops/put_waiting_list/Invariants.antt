use Rattle.std.proofs.Common.{◌≡◌, ◌^◌, ◌<◌, ◌++◌, sum_by}
use Rattle.std.specs.List.{flat_map}
use Rattle.rls_ops.specs.Sizes.{op_size}
use Rattle.rls_ops.specs.Spelling.{op_bytes}
use Rattle.std.specs.Prelude.{All}
use Rattle.rls_codec.specs.Spelled.{IsSpelledIfFit}
use Rattle.rls_fields.proofs.write_ops.put_waiting_list.Given as goal

abbrev pub invariant-loop-op : goal.invariant-loop-op
invariant-loop-op l = record {
  bytes : l.out.items ++ flat_map op_bytes l.op-iterator ≡ l.fn.out.items ++ flat_map op_bytes l.held;
  fits : All IsSpelledIfFit l.op-iterator → All IsSpelledIfFit l.held;
  small : sum_by op_size l.op-iterator < 2 ^ 32;
}
