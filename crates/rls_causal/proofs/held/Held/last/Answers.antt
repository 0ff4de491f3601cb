use Rattle.std.proofs.Common.{◌≡◌, ◌-◌, suc, [], drop, sym, ap, ◌∙◌, arith}
use Rattle.std.specs.Map.{values_of}
use Rattle.rls_causal.specs.Queues.{joined}
use Rattle.rls_causal.proofs.Last.{last_of, last_in, none_from}
use Rattle.rls_causal.proofs.held.Held.last.Goals as goal

pub returns-in-Some : goal.returns-in-Some
returns-in-Some c =
    let Ws = values_of c.self.inside.queues.entries in
    let i = c.loop-place.place - 1 in
    let behind : joined (drop (suc i) Ws) ≡ [] = ap (λ n. joined (drop n Ws)) {x = suc i} {y = c.loop-place.place} (omega (arith, c.loop-place-test.true)) ∙ c.loop-place.invariant.1 in
    record { last = sym (last_in Ws i c.index.result.now c.in-Some.op.now c.index.ensures behind (sym c.in-Some.ensures.last)) ∙ ap last_of c.self.view_is }

pub loop-place-preserved : goal.loop-place-preserved
loop-place-preserved c =
    let Ws = values_of c.self.inside.queues.entries in
    let i = c.loop-place.place - 1 in
    let behind : joined (drop (suc i) Ws) ≡ [] = ap (λ n. joined (drop n Ws)) {x = suc i} {y = c.loop-place.place} (omega (arith, c.loop-place-test.true)) ∙ c.loop-place.invariant.1 in
    (omega (arith, c.loop-place.invariant.0), none_from Ws i c.index.result.now c.index.ensures behind (sym c.in_default.ensures.last))
