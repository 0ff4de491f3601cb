use Rattle.std.proofs.Common.{◌∙◌, sym, arith}
use Rattle.rls_epoch.proofs.KnownRuns.{place_is, place_within}
use Rattle.rls_undo.proofs.translating.Translation.place.Goals as goal

pub overflow_sub-len : goal.overflow_sub-len
overflow_sub-len c =
    let r = c.args.self.now.run in
    let w = place_within r.0 c.first.result.now r.1 c.in-Ok.place (sym c.in-Ok.ensures.place) in
    omega (arith, w, c.len.ensures.len)

pub returns-clause-lies : goal.returns-clause-lies
returns-clause-lies c =
    let r = c.args.self.now.run in
    let found = sym c.in-Ok.ensures.place in
    let w = place_within r.0 c.first.result.now r.1 c.in-Ok.place found in
    record {
      first = sym c.first.ensures.first ∙ place_is r.0 c.first.result.now r.1 c.in-Ok.place found;
      within = omega (arith, w, c.len.ensures.len, c.len-2.ensures.len, c.if-len-place.false);
    }
