use Rattle.std.proofs.Common.{ap, ◌∙◌, arith}
use Rattle.std.specs.Prelude.{pos}
use Rattle.std.proofs.lemmas.Int.{ints}
use Rattle.rls_ident.specs.Identifiers.{shifted}
use Rattle.rls_ident.proofs.Shifted.{last_offset}
use Rattle.rls_runs.proofs.RunEnds.{run_end}
use Rattle.rls_runs.proofs.RunOrder.{run_ident}
use Rattle.rls_rename.proofs.stretch.Stretch.behind.Goals as goal

pub invariant_of-result : goal.invariant_of-result
invariant_of-result c =
    let run = c.args.run.now in
    let first = c.in_ok-shifted.ensures.shifted ∙ ap (shifted (pos c.args.done)) c.first.ensures.first in
    let at = last_offset (pos c.args.done) run.0 (run_ident run c.first.ensures.run) in
    let end = run_end run c.first.ensures.run in
    let n = c.len.ensures.len in
    let some = c.requires.some in
    record { some = omega arith; in_range = rw (first, at) (omega (arith, ints)) }
