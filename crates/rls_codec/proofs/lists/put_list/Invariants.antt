use Rattle.std.proofs.Common.{◌≡◌, ◌++◌, take}
use Rattle.std.specs.Prelude.{All}
use Rattle.std.specs.List.{flat_map}
use Rattle.rls_codec.proofs.lists.put_list.Given as goal

abbrev pub invariant-loop-part : goal.invariant-loop-part
invariant-loop-part g l = record {
  bytes : l.out.items ≡ l.fn.out.items ++ flat_map g.P.Part.bytes (take l.part-index l.parts);
  fits : All g.P.Part.Fits (take l.part-index l.parts);
}
