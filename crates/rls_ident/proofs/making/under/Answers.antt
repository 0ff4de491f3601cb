use Rattle.std.proofs.Common.{◌++◌, ◌≤◌, ◌<◌, sym, ap, ◌∙◌, IsTrue, [], ◌∷◌, drop}
use Rattle.std.proofs.lemmas.List.Elements.{All-push}
use Rattle.rls_ident.specs.Identifiers.{is_inner_bounded}
use Rattle.rls_ident.specs.Between.{upper_number, below}
use Rattle.rls_ident.proofs.BetweenSteps.{upper_at, under_room, one_more}
use Rattle.rls_ident.proofs.making.under.Goals as goal

pub returns-then-upper-ge2-clause-under : goal.returns-then-upper-ge2-clause-under
returns-then-upper-ge2-clause-under c =
    let t = c.tuple.result in
    let room : 2 ≤ upper_number (t ∷ []) = rw c.number-upper.ensures.upper at c.if-upper-ge2.true in
    let e = under_room c.args.replica c.args.seq c.args.hi.now c.loop-i.i t c.tuple.ensures.found room in
    rw (c.ending.ensures.ident, c.middle.ensures.middle, c.number-upper.ensures.upper) (ap (λ x. c.loop-i.front.items ++ x) (sym e) ∙ c.loop-i.invariant.total)

pub loop-i-preserved : goal.loop-i-preserved
loop-i-preserved c =
    let hi = c.args.hi.now in
    let full : upper_number (drop c.loop-i.i hi) < 2 = rw (upper_at hi c.loop-i.i c.tuple.result c.tuple.ensures.found, ← c.number-upper.ensures.upper) c.if-upper-ge2.false in
    let e = c.kept_upper.ensures.below c.args.replica c.args.seq full in
    rw c.in_ok-push.ensures.items record {
      inner = All-push (λ u. IsTrue (is_inner_bounded u)) c.loop-i.front.items c.kept_upper.result c.loop-i.invariant.inner c.kept_upper.ensures.inner;
      total = one_more c.loop-i.front.items c.kept_upper.result (below (drop c.loop-i.i hi) c.args.replica c.args.seq) _ _ e c.loop-i.invariant.total;
    }
