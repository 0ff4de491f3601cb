use Rattle.std.proofs.Common.{◌∙◌, Err, ap}
use Rattle.rls_session.proofs.Answered.{on_ok, spelled_past, spelled_there}
use Rattle.rls_session.proofs.places.spell.Goals as goal

pub returns-in-Err-Range : goal.returns-in-Err-Range
returns-in-Err-Range c =
    let e = c.in-Err-Range in
    let cause = (c.anchor_of.ensures.range e.at e.total).0 (e.is ∙ ap Err e.field-0-is) in
    record { reply = on_ok c.refused.result _ _ (λ reply text. spelled_past c.args.replica.now c.args.at e.at e.total reply.items cause.0 cause.1 cause.2 text) c.refused.ensures.text }

pub returns-in-Ok : goal.returns-in-Ok
returns-in-Ok c = record { reply = on_ok c.anchor.result _ _ (λ reply text. spelled_there c.args.replica.now c.args.at c.in-Ok.place reply.items c.in-Ok.ensures.within c.in-Ok.ensures.anchor text) c.anchor.ensures.text }
