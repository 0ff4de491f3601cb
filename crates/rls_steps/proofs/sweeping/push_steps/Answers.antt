use Rattle.std.proofs.Common.{◌++◌, refl, sym, ap, ◌∙◌, length, arith}
use Rattle.std.proofs.lemmas.Option.{slice_get_read}
use Rattle.rls_steps.specs.declared.piece.Step.{Step}
use Rattle.rls_steps.specs.Sweeping.{piece_labels}
use Rattle.rls_steps.proofs.Swept.{labels_next}
use Rattle.rls_steps.proofs.sweeping.push_steps.Goals as goal

pub steps-preserved : goal.steps-preserved
steps-preserved c =
    let xs = c.args.steps.now in
    let x = c.index-steps-i.result in
    let old = c.steps.labels.items in
    labels_next xs c.steps.i x c.args.labels.now.items old c.push_piece.new.labels.items
    (slice_get_read xs (length xs) c.steps.i x refl (omega (arith, c.steps-test.true)) c.index-steps-i.is) c.steps.invariant
    (c.in_ok-push_piece.ensures.labels ∙ ap (λ (z : Step). old ++ piece_labels z.piece) (sym c.index-steps-i.is))
