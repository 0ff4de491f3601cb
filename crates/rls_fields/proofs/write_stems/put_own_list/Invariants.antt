use Rattle.std.proofs.Common.{◌≡◌, ◌++◌, drop}
use Rattle.std.specs.List.{flat_map}
use Rattle.rls_fields.specs.Fields.{stem_bytes, own_of}
use Rattle.rls_fields.proofs.write_stems.put_own_list.Given as goal

abbrev pub invariant-loop-i : goal.invariant-loop-i
invariant-loop-i l = l.out.items ++ flat_map (stem_bytes 4) (drop l.i (own_of l.author l.stems.stems)) ≡ l.fn.out.items ++ flat_map (stem_bytes 4) (own_of l.author l.stems.stems)
