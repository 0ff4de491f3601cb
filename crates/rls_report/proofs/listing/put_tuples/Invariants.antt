use Rattle.std.proofs.Common.{◌≡◌, ◌++◌, string_bytes, take}
use Rattle.std.specs.List.{flat_map}
use Rattle.rls_report.specs.Listing.{json_tuple}
use Rattle.rls_report.proofs.Joined.{with_byte}
use Rattle.rls_report.proofs.listing.put_tuples.Given as goal

abbrev pub invariant-loop-tuple : goal.invariant-loop-tuple
invariant-loop-tuple l = string_bytes l.text ≡ string_bytes l.fn.text ++ flat_map (with_byte json_tuple 44) (take l.tuple-index l.tuple-items)
