use Rattle.std.proofs.Common.{◌++◌, ◌+◌, ◌≤◌, ◌<◌, sym, ap, ◌∙◌, IsTrue, [], ◌∷◌, drop, arith, length-append}
use Rattle.std.proofs.lemmas.List.Elements.{All-push}
use Rattle.std.proofs.lemmas.Result.{IfOk-weaker}
use Rattle.rls_ident.specs.Identifiers.{is_inner_bounded}
use Rattle.rls_ident.specs.Between.{lower_number, upper_number}
use Rattle.rls_ident.proofs.BetweenSteps.{upper_at, over_room, goes_on, parts, pushed}
use Rattle.rls_ident.proofs.making.inside.Goals as goal

pub returns-then-lower-upper-clause-between : goal.returns-then-lower-upper-clause-between
returns-then-lower-upper-clause-between c =
    let i = c.loop-i.i in
    let hi = drop i c.args.hi.now in
    let t = c.tuple-low.result in
    let u = upper_at c.args.hi.now i c.tuple-high.result c.tuple-high.ensures.found in
    let room : lower_number (t ∷ []) + 2 ≤ upper_number hi = rw (u, ← c.number-lower.ensures.lower, ← c.number-upper.ensures.upper) c.if-lower-upper.true in
    let e = over_room c.args.replica c.args.seq c.args.lo.now hi i t c.tuple-low.ensures.found room in
    rw (c.ending.ensures.ident, c.middle.ensures.middle, c.number-lower.ensures.lower, c.number-upper.ensures.upper, ← u) (ap (λ x. c.loop-i.front.items ++ x) (sym e) ∙ c.loop-i.invariant.total)

pub returns-in_default : goal.returns-in_default
returns-in_default c =
    let close : upper_number (c.tuple-high.result ∷ []) < lower_number (c.tuple-low.result ∷ []) + 2 = rw (← c.number-lower.ensures.lower, ← c.number-upper.ensures.upper) c.if-lower-upper.false in
    let h = parts c.args.replica c.args.seq c.args.lo.now c.args.hi.now c.loop-i.i c.tuple-low.result c.tuple-high.result c.loop-i.front.items _ c.tuple-low.ensures.found c.tuple-high.ensures.found close c.loop-i.invariant.total (λ e. c.in_default.not-Equal (c.compare.ensures.order ∙ e)) in
    record {
      between = IfOk-weaker c.over.result _ _ (λ x q. pushed c.args.replica c.args.seq c.args.lo.now c.loop-i.i c.tuple-low.result c.loop-i.front.items c.push.new.self.items _ x c.in_ok-push.ensures.items c.loop-i.invariant.count h q) c.over.ensures.over;
      ident = c.len-2.ensures.ident;
    }

pub loop-i-preserved : goal.loop-i-preserved
loop-i-preserved c =
    let close : upper_number (c.tuple-high.result ∷ []) < lower_number (c.tuple-low.result ∷ []) + 2 = rw (← c.number-lower.ensures.lower, ← c.number-upper.ensures.upper) c.if-lower-upper.false in
    let h = goes_on c.args.replica c.args.seq c.args.lo.now c.args.hi.now c.loop-i.i c.tuple-low.result c.tuple-high.result c.loop-i.front.items _ c.tuple-low.ensures.found c.tuple-high.ensures.found close c.loop-i.invariant.total (sym c.compare.ensures.order ∙ c.in-Equal.is) in
    rw c.in_ok-push.ensures.items record {
      inner = All-push (λ u. IsTrue (is_inner_bounded u)) c.loop-i.front.items c.tuple-low.result c.loop-i.invariant.inner c.tuple-low.ensures.inner;
      count = omega (arith, length-append c.loop-i.front.items (c.tuple-low.result ∷ []), c.loop-i.invariant.count);
      total = h;
    }
