use Rattle.std.proofs.Common.{rules, ◌≡◌, ◌++◌, ◌∷◌, [], take_all, arith}
use Rattle.std.specs.List.{flat_map}
use Rattle.rls_report.specs.Listing.{json_run}
use Rattle.rls_report.proofs.Joined.{with_byte, joined_pushed, two_pieces}
use Rattle.rls_report.proofs.listing.put_runs.Goals as goal

pub returns : goal.returns
returns c =
    let front = c.in-Some.front.now in
    let last = c.in-Some.last.now in
    let runs_are : c.args.runs.now ≡ front ++ last ∷ [] = search rules in
    let so_far = rw (take_all c.loop-run.run-index front (omega arith)) at c.loop-run.invariant in
    record { ok = rw (runs_are, joined_pushed json_run 44 front last) (two_pieces _ (flat_map (with_byte json_run 44) front) (json_run last) _ _ so_far c.in_ok-put_run-2.ensures.ok) }
