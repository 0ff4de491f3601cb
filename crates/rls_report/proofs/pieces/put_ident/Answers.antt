use Rattle.std.proofs.Common.{sym, ◌∙◌, arith}
use Rattle.rls_report.specs.Texts.{tuple_text}
use Rattle.rls_report.proofs.Joined.{last_joined}
use Rattle.rls_report.proofs.pieces.put_ident.Goals as goal

pub returns : goal.returns
returns c =
    let last_is = c.last.ensures.last ∙ sym c.as_tuple.ensures in
    record { ok = last_joined tuple_text 47 c.front-tuple-items.result.now c.as_tuple.result _ _ c.loop-tuple.tuple-index _ _ _ c.front-tuple-items.ensures.front last_is (omega arith) c.loop-tuple.invariant c.in_ok-put_tuple-2.ensures.ok }
