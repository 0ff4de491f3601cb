use Rattle.std.proofs.Common.{◌≡◌, ℕ, sym, subst}
use Rattle.std.specs.Prelude.{Option, IfOk}
use Rattle.rls_steps.specs.Courses.{place_over}
use Rattle.rls_steps.specs.Recorded.{held_by}
use Rattle.rls_steps.proofs.finding.place.Goals as goal

pub returns-in-None : goal.returns-in-None
returns-in-None c = record {
  place = subst (λ (o : Option ℕ). IfOk c.place_before.result (λ at. (next : ℕ) → at ≡ place_over (held_by c.args.replica.now next c.args.names.now) o c.args.right)) (sym c.in-Some.is) c.place_before.ensures.place;
}
