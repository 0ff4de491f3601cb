use Rattle.std.proofs.Common.{◌≡◌, ℕ, ◌<◌, subst}
use Rattle.rls_ident.specs.Tuples.{offset_of}
use Rattle.rls_ident.specs.Identifiers.{last_of}
use Rattle.rls_steps.specs.NameRuns.{Stretch, label_by}
use Rattle.rls_steps.proofs.Stretches.{label_down, label_up}
use Rattle.rls_steps.proofs.name_run.NameRun.find_label.Goals as goal

pub returns-then-self-clause-missed : goal.returns-then-self-clause-missed
returns-then-self-clause-missed c =
    λ none. let s = c.self.inside in
    subst (λ (r : Stretch). (k : ℕ) → k < r.len → label_by r.down r.label k ≡ c.args.label → ⊥) c.self.view_is
    (λ k h e. c.number_place.ensures.missed none k h (label_down s.down (offset_of (last_of s.first)) s.label s.len k c.args.label c.if-self.true c.self.invariant.within h e))

pub returns-clause-missed : goal.returns-clause-missed
returns-clause-missed c =
    λ none. let s = c.self.inside in
    subst (λ (r : Stretch). (k : ℕ) → k < r.len → label_by r.down r.label k ≡ c.args.label → ⊥) c.self.view_is
    (λ k h e. c.number_place-2.ensures.missed none k h (label_up s.down s.label k c.args.label c.if-self.false e))
