use Rattle.std.proofs.Common.{◌≡◌, length, map, take, refl, ap, ◌∙◌, arith}
use Rattle.std.specs.Prelude.{reverse, Some}
use Rattle.std.proofs.Math.Seq.{take-length}
use Rattle.rls_steps.specs.Labelled.{label_all, label_of}
use Rattle.rls_steps.specs.Recorded.{held_by}
use Rattle.rls_steps.proofs.Giving.{front_trans}
use Rattle.rls_steps.proofs.labelling.give_all.Goals as goal

pub labels-init : goal.labels-init
labels-init c = record { within = omega arith; held = λ s. refl; labels = λ s. ap (map Some) c.in_ok-labels.ensures.items; front = take-length c.args.names.now }

pub labels-preserved : goal.labels-preserved
labels-preserved c = record {
  within = c.in_ok-i.ensures.within;
  held = λ s. c.in_ok-i.ensures.given s (held_by s c.args.next.now c.args.names.now) (c.labels.invariant.held s);
  labels = λ s. c.in_ok-i.ensures.labels s (c.labels.invariant.labels s);
  front = front_trans c.args.names.now c.labels.names c.give_next.new.names c.labels.invariant.front c.give_next.ensures.front;
}

pub returns-in_err-i-clause-front : goal.returns-in_err-i-clause-front
returns-in_err-i-clause-front c = front_trans c.args.names.now c.labels.names c.give_next.new.names c.labels.invariant.front c.give_next.ensures.front

pub returns-clause-given : goal.returns-clause-given
returns-clause-given c = λ s.
    let ids = c.args.ids.now in
    let total = c.total-total.ensures.total in
    let size : c.labels.i ≡ length ids = omega (arith, c.labels.invariant.within, c.labels-test.false, total) in
    c.labels.invariant.held s ∙ ap (label_all (held_by s c.args.next.now c.args.names.now)) (ap (λ n. take n ids) size ∙ take-length ids)

pub returns-clause-labels : goal.returns-clause-labels
returns-clause-labels c = λ s.
    let ids = c.args.ids.now in
    let total = c.total-total.ensures.total in
    let size : c.labels.i ≡ length ids = omega (arith, c.labels.invariant.within, c.labels-test.false, total) in
    c.labels.invariant.labels s ∙ ap (map (label_of (reverse c.labels.names))) (ap (λ n. take n ids) size ∙ take-length ids)
