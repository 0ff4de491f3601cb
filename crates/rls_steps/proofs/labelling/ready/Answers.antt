use Rattle.std.proofs.Common.{◌+◌, ◌-◌, ap, ◌∙◌}
use Rattle.std.specs.Prelude.{min}
use Rattle.rls_steps.proofs.Readying.{near_room, piece_ready}
use Rattle.rls_steps.proofs.labelling.ready.Goals as goal

pub piece_of-requires-clause-labels : goal.piece_of-requires-clause-labels
piece_of-requires-clause-labels c =
    let near = c.near-many.ensures.near ∙ ap (λ t. min (c.args.count + 2) (t - c.before-from.result)) c.total-total.ensures.total in
    near_room c.args.replica.now c.give.new.names c.args.at c.args.count c.before-from.result c.near-many.result c.in_ok-labels.labels.items c.requires.places c.before-from.ensures.before near c.in_ok-labels.ensures.labels

pub returns-clause-piece : goal.returns-clause-piece
returns-clause-piece c =
    let near = c.near-many.ensures.near ∙ ap (λ t. min (c.args.count + 2) (t - c.before-from.result)) c.total-total.ensures.total in
    piece_ready c.args.replica.now c.give.new.next c.give.new.names c.args.at c.args.count c.before-from.result c.near-many.result c.in_ok-labels.labels.items c.in_ok-text.text c.in-Ok.piece
    c.before-from.ensures.before near c.in_ok-labels.ensures.labels c.in_ok-text.ensures.text c.in-Ok.ensures.piece
