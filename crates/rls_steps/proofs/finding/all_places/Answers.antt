use Rattle.std.proofs.Common.{◌++◌, append-nil, sym, ap, ◌∙◌, arith}
use Rattle.std.specs.Prelude.{reverse}
use Rattle.std.proofs.lemmas.List.{drop_all}
use Rattle.rls_seen.specs.Seen.{idents_over}
use Rattle.rls_steps.specs.Index.{all_places}
use Rattle.rls_steps.proofs.finding.all_places.Goals as goal

pub returns : goal.returns
returns c =
    let ps = c.labels.places.items in
    let none = drop_all c.labels.i c.args.labels.now (omega (arith, c.labels-test.false)) in
    record { places = sym (append-nil ps) ∙ (ap (λ ls. ps ++ all_places (idents_over c.args.replica.now) ls (reverse c.args.names.now)) (sym none) ∙ c.labels.invariant.places) }
