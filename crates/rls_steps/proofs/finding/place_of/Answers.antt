use Rattle.std.proofs.Common.{ap, ◌∙◌}
use Rattle.std.specs.Prelude.{reverse, slice_get}
use Rattle.rls_steps.specs.Marks.{first_of}
use Rattle.rls_steps.proofs.Found.{first_is, place_fits}
use Rattle.rls_steps.proofs.finding.place_of.Goals as goal

pub returns-clause-within : goal.returns-clause-within
returns-clause-within c =
    let items = c.in_ok-places.places.items in
    place_fits c.args.replica.now (reverse c.args.names.now) c.args.label c.copied.result c.sane.ensures.sane
    (c.copied.ensures ∙ (c.first.ensures.value ∙ (ap (λ ps. slice_get ps 0) c.deref.ensures.value ∙ (first_is items ∙ ap first_of c.in_ok-places.ensures.places))))
