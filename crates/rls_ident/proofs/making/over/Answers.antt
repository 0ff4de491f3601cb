use Rattle.std.proofs.Common.{◌++◌, ◌+◌, ◌≤◌, ◌<◌, sym, ap, ◌∙◌, IsTrue, [], ◌∷◌, drop}
use Rattle.std.proofs.lemmas.List.Elements.{All-push}
use Rattle.rls_ident.specs.Identifiers.{is_inner_bounded}
use Rattle.rls_ident.specs.Between.{lower_number, last_pos, between}
use Rattle.rls_ident.proofs.BetweenSteps.{over_room, over_close, one_more}
use Rattle.rls_ident.proofs.making.over.Goals as goal

pub returns-then-lower : goal.returns-then-lower
returns-then-lower c =
    let t = c.tuple-tuple.result in
    let room : lower_number (t ∷ []) + 2 ≤ last_pos = rw c.number-lower.ensures.lower at c.if-lower.true in
    let e = over_room c.args.replica c.args.seq c.args.lo.now [] c.loop-i.i t c.tuple-tuple.ensures.found room in
    record { over = rw (c.ending.ensures.ident, c.middle.ensures.middle, c.number-lower.ensures.lower) (ap (λ x. c.loop-i.front.items ++ x) (sym e) ∙ c.loop-i.invariant.total) }

pub loop-i-preserved : goal.loop-i-preserved
loop-i-preserved c =
    let t = c.tuple-tuple.result in
    let lo = c.args.lo.now in
    let close : last_pos < lower_number (t ∷ []) + 2 = rw c.number-lower.ensures.lower at c.if-lower.false in
    let e = over_close c.args.replica c.args.seq lo [] c.loop-i.i t c.tuple-tuple.ensures.found close in
    rw c.in_ok-push.ensures.items record {
      inner = All-push (λ u. IsTrue (is_inner_bounded u)) c.loop-i.front.items t c.loop-i.invariant.inner c.tuple-tuple.ensures.inner;
      total = one_more c.loop-i.front.items t (between (drop c.loop-i.i lo) [] c.args.replica c.args.seq) _ _ e c.loop-i.invariant.total;
    }
