use Rattle.std.proofs.Common.{◌≡◌, length, ap, ◌∙◌, arith}
use Rattle.std.specs.Prelude.{Option}
use Rattle.rls_steps.specs.NameRuns.{Stretch, names_in}
use Rattle.rls_steps.proofs.Stretches.{names_long}
use Rattle.rls_steps.proofs.names.Names.push_fronts.Goals as goal

pub fronts-smaller : goal.fronts-smaller
fronts-smaller c =
    let r = c.in-Some.run' in
    let fewer = c.in_ok-rest.ensures.fewer in
    let all : length (names_in c.fronts.rest) ≡ r.len = ap (λ (o : Option Stretch). length (names_in o)) c.in-Some.is ∙ names_long r.down r.first r.label 0 r.len in
    omega (arith, fewer, all)
