use Rattle.std.proofs.Common.{◌≡◌, ℕ, ◌+◌, List, ap, ◌∙◌, arith}
use Rattle.std.specs.Prelude.{slice_get}
use Rattle.rls_ident.specs.declared.tuple.Tuple.{Tuple}
use Rattle.rls_seen.specs.Over.{placed_over}
use Rattle.rls_steps.proofs.Tabling.{mapped_next}
use Rattle.rls_steps.proofs.labelling.translated.Goals as goal

pub names-preserved : goal.names-preserved
names-preserved c =
    let f : List Tuple × ℕ → List Tuple × ℕ = λ n. (placed_over c.args.replica.now c.args.epoch n.0, n.1) in
    let none : 0 + c.names.i ≡ c.names.i = omega arith in
    let placed = c.in-Ok.ensures.ident in
    mapped_next f c.args.names.now 0 c.names.i _ _ c.names.there c.push.new.self (ap (slice_get c.args.names.now) none ∙ c.in_ok-ident.ensures.name) (cc) c.names.invariant c.in_ok-push.ensures.names
