use Rattle.std.proofs.Common.{◌≡◌, ℕ, ◌<◌, subst}
use Rattle.std.specs.Prelude.{IfSome}
use Rattle.rls_ident.specs.Identifiers.{shifted}
use Rattle.rls_steps.specs.NameRuns.{Stretch, step_by}
use Rattle.rls_steps.proofs.Stretches.{found_down, missed_down}
use Rattle.rls_steps.proofs.name_run.NameRun.find.Goals as goal

pub returns-then-self-clause-found : goal.returns-then-self-clause-found
returns-then-self-clause-found c =
    let s = c.self.inside in
    subst (λ (r : Stretch). IfSome c.place_from.result (λ k. (k < r.len) × (shifted (step_by r.down k) r.first ≡ c.args.ident.now))) c.self.view_is
    (found_down s.down c.args.ident.now s.first s.len c.place_from.result c.if-self.true c.place_from.ensures.found)

pub returns-then-self-clause-missed : goal.returns-then-self-clause-missed
returns-then-self-clause-missed c =
    λ none. let s = c.self.inside in
    subst (λ (r : Stretch). (k : ℕ) → k < r.len → shifted (step_by r.down k) r.first ≡ c.args.ident.now → ⊥) c.self.view_is
    (missed_down s.down c.args.ident.now s.first s.len c.if-self.true (c.place_from.ensures.missed none))
