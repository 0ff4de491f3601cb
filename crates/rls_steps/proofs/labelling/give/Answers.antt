use Rattle.std.proofs.Common.{◌+◌, ◌≤◌, length, map, take, drop, sym, ap, ◌∙◌, subst}
use Rattle.std.specs.Prelude.{reverse}
use Rattle.rls_runs.specs.Entries.{Entries, idents_in}
use Rattle.rls_steps.specs.Labelled.{label_all, label_of}
use Rattle.rls_steps.specs.Recorded.{held_by}
use Rattle.rls_steps.proofs.labelling.give.Goals as goal

pub runs_of-requires : goal.runs_of-requires
runs_of-requires c = record { places = subst (λ (es : Entries). c.args.from + c.args.count ≤ length es) (sym c.tree.ensures.text) c.requires.places }

pub returns-clause-ok : goal.returns-clause-ok
returns-clause-ok c =
    let ids = c.in_ok-ids.ensures.runs ∙ ap (λ (es : Entries). take c.args.count (drop c.args.from (idents_in es))) c.tree.ensures.text in
    c.in_ok-labels.ensures.given c.args.replica.now ∙ ap (label_all (held_by c.args.replica.now c.args.next.now c.args.names.now)) ids

pub returns-clause-labels : goal.returns-clause-labels
returns-clause-labels c =
    let ids = c.in_ok-ids.ensures.runs ∙ ap (λ (es : Entries). take c.args.count (drop c.args.from (idents_in es))) c.tree.ensures.text in
    c.in_ok-labels.ensures.labels c.args.replica.now ∙ ap (map (label_of (reverse c.give_all.new.names))) ids
