use Rattle.std.proofs.Common.{◌≡◌, ◌++◌, string_bytes, take}
use Rattle.std.specs.List.{flat_map}
use Rattle.rls_report.specs.Listing.{json_run}
use Rattle.rls_report.proofs.Joined.{with_byte}
use Rattle.rls_report.proofs.listing.put_runs.Given as goal

abbrev pub invariant-loop-run : goal.invariant-loop-run
invariant-loop-run l = string_bytes l.text ≡ string_bytes l.fn.text ++ flat_map (with_byte json_run 44) (take l.run-index l.front)
