use Rattle.std.proofs.Common.{sym, ◌∙◌, arith}
use Rattle.rls_report.specs.Listing.{json_tuple}
use Rattle.rls_report.proofs.Joined.{last_joined}
use Rattle.rls_report.proofs.listing.put_tuples.Goals as goal

pub returns : goal.returns
returns c =
    let last_is = c.last.ensures.last ∙ sym c.as_tuple.ensures in
    record { ok = last_joined json_tuple 44 c.front-tuple-items.result.now c.as_tuple.result _ _ c.loop-tuple.tuple-index _ _ _ c.front-tuple-items.ensures.front last_is (omega arith) c.loop-tuple.invariant c.in_ok-put_tuple-2.ensures.ok }
