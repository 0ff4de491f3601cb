use Rattle.std.proofs.Common.{◌∙◌, ◌+◌, ◌≤◌, length, take, drop, ap, arith}
use Rattle.std.proofs.lemmas.List.{length-map}
use Rattle.rls_runs.specs.Entries.{Entries, idents_in}
use Rattle.rls_seen.specs.Seen.{idents_over}
use Rattle.rls_changes.proofs.Looking.{part_length, stretch_same}
use Rattle.rls_changes.proofs.finding.stretch.Goals as goal

pub returns-clause-same : goal.returns-clause-same
returns-clause-same c =
    let xs = idents_over c.args.replica.now in
    let l = length-map c.args.replica.now.text (λ y. y.0) in
    let n = c.min-most.result in
    let e = c.in_ok-there.ensures.runs ∙ ap (λ (es : Entries). take n (drop c.args.place (idents_in es))) c.tree-2.ensures.text in
    let room : c.args.place + n ≤ length xs = omega (arith, l, c.requires.place, c.total.ensures.total, c.min-most.ensures) in
    let p = part_length n c.args.place xs c.in_ok-there.there e room in
    stretch_same xs c.args.targets.now c.in_ok-there.there c.args.at c.args.place n c.count_common-count.result e room c.count_common-count.ensures.within (omega (arith, p, c.count_common-count.ensures.other_within)) c.count_common-count.ensures.same
