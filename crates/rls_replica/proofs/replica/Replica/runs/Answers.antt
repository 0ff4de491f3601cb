use Rattle.std.proofs.Common.{◌∙◌, ◌≤◌, ap, length, arith}
use Rattle.std.proofs.lemmas.List.{length-map, take_all}
use Rattle.rls_runs.specs.Entries.{idents_in}
use Rattle.rls_seen.specs.Seen.{idents_over}
use Rattle.rls_seen.proofs.Editing.{idents_alike}
use Rattle.rls_blocks.specs.Trees.{entries_of}
use Rattle.rls_replica.proofs.replica.Replica.runs.Goals as goal

pub returns-clause-runs : goal.returns-clause-runs
returns-clause-runs c =
    let es = entries_of c.self.inside.document.blocks in
    let l : length (idents_in es) ≤ c.total.result = omega (arith, length-map es (λ e. e.0), c.total.ensures.total) in
    c.in_ok-runs.ensures.runs ∙ (take_all c.total.result (idents_in es) l ∙ ap idents_over c.self.view_is)

pub returns-clause-stands : goal.returns-clause-stands
returns-clause-stands c = λ t h. returns-clause-runs c ∙ idents_alike c.args.self.now t h
