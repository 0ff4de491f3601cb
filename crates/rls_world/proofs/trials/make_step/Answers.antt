use Rattle.std.proofs.Common.{◌∙◌, sym, ap}
use Rattle.std.specs.Prelude.{slice_get}
use Rattle.rls_world.specs.Draws.{next_draw, drawn}
use Rattle.rls_world.specs.Trial.{after_events, kind_events, total_of}
use Rattle.rls_world.proofs.Courses.{on_ok}
use Rattle.rls_world.proofs.Sorts.{made_step}
use Rattle.rls_world.proofs.trials.make_step.Goals as goal

pub returns-clause-ok : goal.returns-clause-ok
returns-clause-ok c =
    on_ok c.happen.result c.happen.ensures.ok (λ f k e h.
    let m = c.draw-member.result in
    let kind = c.draw-kind.result in
    let x = c.draw-kind.new.self.state in
    let one = c.draw-member.ensures.state ∙ ap next_draw (sym e) in
    made_step k m kind x c.act.new.draws.state c.happen.new.world (c.draw-member.ensures.drawn ∙ ap (λ y. drawn 3 (next_draw y)) (sym e)) (c.draw-kind.ensures.drawn ∙ ap (λ y. drawn 16 (next_draw y)) one)
    (c.draw-kind.ensures.state ∙ ap next_draw one) (c.in_ok-act.ensures.draws k.world h)
    (f (after_events k.world (kind_events k.world m (total_of (slice_get k.world.states m)) kind x)) (c.in_ok-act.ensures.world k.world h)))
