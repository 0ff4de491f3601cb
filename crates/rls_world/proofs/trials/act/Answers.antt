use Rattle.std.proofs.Common.{◌∙◌, ◌<◌, sym, ap, subst, arith, List, []}
use Rattle.std.specs.Prelude.{slice_get, ◌+◌, ◌%◌, ◌∷◌}
use Rattle.rls_model.specs.declared.edit.Edit.{Edit}
use Rattle.rls_model.specs.declared.event.Event.{Event}
use Rattle.rls_model.specs.declared.event.Event.TheVariants as events
use Rattle.rls_world.specs.Seen.{StandsForWorld}
use Rattle.rls_world.specs.Trial.{after_events, kind_events, total_of, drawn_insertion, drawn_deletion, sent_events, deliveries}
use Rattle.rls_world.proofs.Courses.{on_ok}
use Rattle.rls_world.proofs.Sorts.{total_alike, inserts, nothing_deleted, deleted, nothing_renamed, renamed, others, none_drawn, two_drawn}
use Rattle.rls_world.proofs.trials.act.Goals as goal

pub returns-then-kind-le8-clause-world : goal.returns-then-kind-le8-clause-world
returns-then-kind-le8-clause-world c =
    on_ok c.happen.result c.happen.ensures.ok (λ f w h.
    let r = c.replica.ensures.stands w h in
    let e = total_alike c.replica.result.now w c.args.member r.0 c.total-total.result r.1 r.2 c.total-total.ensures.total in
    subst (λ (es : List Event). StandsForWorld c.happen.new.world (after_events w es)) (sym (inserts w c.args.member (total_of (slice_get w.states c.args.member)) c.args.kind c.args.draws.now.state c.if-kind-le8.true ∙ ap (λ (x : Edit). events.Edit c.args.member x ∷ []) (ap (λ n. drawn_insertion n c.args.draws.now.state) (sym e) ∙ sym c.in_ok-edit.ensures.edit))) (f w h))

pub returns-then-total-eq0-clause-world : goal.returns-then-total-eq0-clause-world
returns-then-total-eq0-clause-world c =
    λ w h.
    let r = c.replica.ensures.stands w h in
    let e = total_alike c.replica.result.now w c.args.member r.0 c.total-total.result r.1 r.2 c.total-total.ensures.total in
    subst (λ (es : List Event). StandsForWorld c.args.world.now (after_events w es)) (sym (nothing_deleted w c.args.member (total_of (slice_get w.states c.args.member)) c.args.kind c.args.draws.now.state c.if-kind-le8.false c.if-kind-le11.true (sym e ∙ c.if-total-eq0.true))) (h)

pub returns-then-total-eq0-clause-draws : goal.returns-then-total-eq0-clause-draws
returns-then-total-eq0-clause-draws c =
    λ w h.
    let r = c.replica.ensures.stands w h in
    let e = total_alike c.replica.result.now w c.args.member r.0 c.total-total.result r.1 r.2 c.total-total.ensures.total in
    sym (none_drawn (total_of (slice_get w.states c.args.member)) c.args.kind c.args.draws.now.state c.if-kind-le8.false c.if-kind-le11.true (sym e ∙ c.if-total-eq0.true))

pub returns-then-kind-le11-clause-world : goal.returns-then-kind-le11-clause-world
returns-then-kind-le11-clause-world c =
    on_ok c.happen-then-kind-le11.result c.happen-then-kind-le11.ensures.ok (λ f w h.
    let r = c.replica.ensures.stands w h in
    let e = total_alike c.replica.result.now w c.args.member r.0 c.total-total.result r.1 r.2 c.total-total.ensures.total in
    subst (λ (es : List Event). StandsForWorld c.happen-then-kind-le11.new.world (after_events w es)) (sym (deleted w c.args.member (total_of (slice_get w.states c.args.member)) c.args.kind c.args.draws.now.state c.if-kind-le8.false c.if-kind-le11.true (subst (λ n. 0 < n) e (omega arith)) ∙ ap (λ (x : Edit). events.Edit c.args.member x ∷ []) (ap (λ n. drawn_deletion n c.args.draws.now.state) (sym e) ∙ sym c.deletion-edit.ensures.edit))) (f w h))

pub returns-then-kind-le11-clause-draws : goal.returns-then-kind-le11-clause-draws
returns-then-kind-le11-clause-draws c =
    on_ok c.happen-then-kind-le11.result c.happen-then-kind-le11.ensures.ok (λ f w h.
    let r = c.replica.ensures.stands w h in
    let e = total_alike c.replica.result.now w c.args.member r.0 c.total-total.result r.1 r.2 c.total-total.ensures.total in
    c.deletion-edit.ensures.state ∙ sym (two_drawn (total_of (slice_get w.states c.args.member)) c.args.kind c.args.draws.now.state c.if-kind-le8.false c.if-kind-le11.true (subst (λ n. 0 < n) e (omega arith))))

pub returns-then-total-eq0-2-clause-world : goal.returns-then-total-eq0-2-clause-world
returns-then-total-eq0-2-clause-world c =
    λ w h.
    let r = c.replica.ensures.stands w h in
    let e = total_alike c.replica.result.now w c.args.member r.0 c.total-total.result r.1 r.2 c.total-total.ensures.total in
    subst (λ (es : List Event). StandsForWorld c.args.world.now (after_events w es)) (sym (ap (λ k. kind_events w c.args.member (total_of (slice_get w.states c.args.member)) k c.args.draws.now.state) c.if-kind-eq12.true ∙ nothing_renamed w c.args.member (total_of (slice_get w.states c.args.member)) c.args.draws.now.state (sym e ∙ c.if-total-eq0-2.true))) (h)

pub returns-then-kind-eq12-clause-world : goal.returns-then-kind-eq12-clause-world
returns-then-kind-eq12-clause-world c =
    on_ok c.happen-then-kind-eq12.result c.happen-then-kind-eq12.ensures.ok (λ f w h.
    let r = c.replica.ensures.stands w h in
    let e = total_alike c.replica.result.now w c.args.member r.0 c.total-total.result r.1 r.2 c.total-total.ensures.total in
    subst (λ (es : List Event). StandsForWorld c.happen-then-kind-eq12.new.world (after_events w es)) (sym (ap (λ k. kind_events w c.args.member (total_of (slice_get w.states c.args.member)) k c.args.draws.now.state) c.if-kind-eq12.true ∙ renamed w c.args.member (total_of (slice_get w.states c.args.member)) c.args.draws.now.state (subst (λ n. 0 < n) e (omega arith)))) (f w h))

pub returns-clause-world : goal.returns-clause-world
returns-clause-world c =
    on_ok c.exchange.result c.exchange.ensures.ok (λ f w h.
    let to = ap (λ d. sent_events w c.args.member ((c.args.member + 1 + d) % 3) (deliveries c.args.kind)) (sym c.draw.ensures.drawn) in
    let times = ap (λ n. sent_events w c.args.member ((c.args.member + 1 + c.draw.result) % 3) n) (sym c.deliveries.ensures.times) in
    subst (λ (es : List Event). StandsForWorld c.exchange.new.world (after_events w es)) (sym (others w c.args.member (total_of (slice_get w.states c.args.member)) c.args.kind c.args.draws.now.state c.if-kind-le11.false c.if-kind-eq12.false ∙ (to ∙ times))) (f w h))
