use Rattle.std.proofs.Common.{◌∙◌, List, ℕ, ap, map}
use Rattle.rls_ident.specs.declared.tuple.Tuple.{Tuple}
use Rattle.rls_runs.specs.Runs.{run_idents}
use Rattle.rls_seen.specs.Over.{placed_over}
use Rattle.rls_undo.proofs.Parts.{one_there}
use Rattle.rls_undo.proofs.translating.ident_there.Goals as goal

pub returns : goal.returns
returns c =
    let f = placed_over c.args.replica.now c.args.epoch in
    let e = rw c.in-Some.is at c.in_ok-part.ensures.part in
    let run = c.in-Ok.ensures.ok ∙ ap (λ (x : List Tuple). (x, 1)) c.in_ok-copy.ensures.copy in
    let one = one_there f c.args.id.now c.in-Some.part.0 c.in-Some.part.1 (e ∙ ap (λ (r : List Tuple × ℕ). map f (run_idents r.0 r.1)) run) in
    record { there = c.in_ok-there.ensures.copy ∙ (c.first.ensures.first ∙ one) }
