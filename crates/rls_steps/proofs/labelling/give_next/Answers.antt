use Rattle.std.proofs.Common.{arith}
use Rattle.rls_steps.specs.Recorded.{held_by}
use Rattle.rls_steps.proofs.GivenRuns.{located, located_within, next_given, next_labels}
use Rattle.rls_steps.proofs.labelling.give_next.Goals as goal

pub part-requires : goal.part-requires
part-requires c =
    let within = c.locate-at.ensures.within in
    let len = c.len.ensures.len in
    record { some = omega (arith, within, len); within = omega (arith, within, len) }

pub overflow_add-result : goal.overflow_add-result
overflow_add-result c =
    let total = c.total-total.ensures.total in
    let within =
    located_within c.args.ids.now c.locate-at.result.0.now c.in_ok-rest.rest c.args.i c.locate-at.result.1 c.in_ok-first.count c.len.result c.locate-at.ensures.idents c.in_ok-rest.ensures.part c.len.ensures.len c.in_ok-first.ensures.most c.in_ok-first.ensures.some in
    omega (arith, total, within)

pub returns-clause-within : goal.returns-clause-within
returns-clause-within c =
    located_within c.args.ids.now c.locate-at.result.0.now c.in_ok-rest.rest c.args.i c.locate-at.result.1 c.in_ok-first.count c.len.result c.locate-at.ensures.idents c.in_ok-rest.ensures.part c.len.ensures.len c.in_ok-first.ensures.most c.in_ok-first.ensures.some

pub returns-clause-given : goal.returns-clause-given
returns-clause-given c =
    let part =
    located c.args.ids.now c.locate-at.result.0.now c.in_ok-rest.rest c.args.i c.locate-at.result.1 c.in_ok-first.count c.len.result c.locate-at.ensures.idents c.in_ok-rest.ensures.part c.len.ensures.len c.in_ok-first.ensures.most in
    λ s h old. next_given h (held_by s c.args.next.now c.args.names.now) (held_by s c.label_first.new.next c.label_first.new.names) c.args.ids.now c.in_ok-rest.rest.0 c.args.i c.in_ok-first.count part (c.in_ok-first.ensures.given s) old

pub returns-clause-labels : goal.returns-clause-labels
returns-clause-labels c =
    let part =
    located c.args.ids.now c.locate-at.result.0.now c.in_ok-rest.rest c.args.i c.locate-at.result.1 c.in_ok-first.count c.len.result c.locate-at.ensures.idents c.in_ok-rest.ensures.part c.len.ensures.len c.in_ok-first.ensures.most in
    λ s old. next_labels (held_by s c.args.next.now c.args.names.now) (held_by s c.label_first.new.next c.label_first.new.names) c.args.ids.now c.in_ok-rest.rest.0 c.args.i c.in_ok-first.count c.in_ok-first.first c.args.labels.now.items c.push_rising.new.numbers.items part
    (c.in_ok-first.ensures.given s) c.in_ok-first.ensures.labels c.in_ok-push_rising.ensures.numbers old
