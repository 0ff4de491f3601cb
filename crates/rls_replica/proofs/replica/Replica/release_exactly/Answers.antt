use Rattle.std.proofs.Common.{◌≡◌, ◌∙◌, ◌++◌, Option, Some, None, sym, ap}
use Rattle.rls_model.specs.declared.receipt.Refusal.{Refusal}
use Rattle.rls_model.specs.Answers.{reason_of, reason_in}
use Rattle.rls_seen.specs.Over.{release_over, released}
use Rattle.rls_seen.proofs.Repeating.{released_none}
use Rattle.rls_replica.specs.Releases.{release_in}
use Rattle.rls_replica.specs.Watching.{released_told}
use Rattle.rls_replica.proofs.Told.{unreleased_told}
use Rattle.rls_replica.proofs.Answered.{refused_is, fits_is, nothing_released}
use Rattle.rls_replica.proofs.replica.Replica.release_exactly.Goals as goal

pub returns-then-none_waits-clause-answer : goal.returns-then-none_waits-clause-answer
returns-then-none_waits-clause-answer g c = sym (nothing_released c.args.self.now (c.none_waits.ensures.none c.if-none_waits.true))

pub returns-then-none_waits-clause-after : goal.returns-then-none_waits-clause-after
returns-then-none_waits-clause-after g c = sym (released_none c.args.self.now (nothing_released c.args.self.now (c.none_waits.ensures.none c.if-none_waits.true)))

pub returns-in_default-clause-after : goal.returns-in_default-clause-after
returns-in_default-clause-after g c = sym (released_none c.learn_ready.new.self (sym c.in_ok-release.ensures.answer ∙ ap release_in c.in_default.is)) ∙ ap released (c.learn_ready.ensures.same ∙ c.note_gone.ensures.same)

pub apply_ready_shown-requires : goal.apply_ready_shown-requires
apply_ready_shown-requires g c =
    let a = c.in-Some.release.author in
    let q = c.in-Some.release.seq in
    let e : release_over c.learn_ready.new.self ≡ Some (record { author = a; seq = q; refusal = None }) =
    sym c.in_ok-release.ensures.answer ∙ (ap release_in c.in-Some.is ∙ ap (λ (r : Option Refusal). Some (record { author = a; seq = q; refusal = reason_in r })) c.in-None.is) in
    record { fits = fits_is c.learn_ready.new.self a q e }

pub returns-in-Some-refusal-clause-after : goal.returns-in-Some-refusal-clause-after
returns-in-Some-refusal-clause-after g c =
    let a = c.in-Some.release.author in
    let q = c.in-Some.release.seq in
    let r = reason_of c.in-Some-refusal.field-0 in
    let e : release_over c.learn_ready.new.self ≡ Some (record { author = a; seq = q; refusal = Some r }) =
    sym c.in_ok-release.ensures.answer ∙ (ap release_in c.in-Some.is ∙ ap (λ (x : Option Refusal). Some (record { author = a; seq = q; refusal = reason_in x })) c.in-Some-refusal.is) in
    c.forget.ensures.after ∙ (refused_is c.learn_ready.new.self a q r e ∙ ap released (c.learn_ready.ensures.same ∙ c.note_gone.ensures.same))

-- ---- what is told

pub returns-then-none_waits-clause-told : goal.returns-then-none_waits-clause-told
returns-then-none_waits-clause-told g c =
    unreleased_told g.W.Watcher.tells c.args.self.now (g.W.Watcher.told c.args.watcher.now) (nothing_released c.args.self.now (c.none_waits.ensures.none c.if-none_waits.true))

pub returns-in_default-clause-told : goal.returns-in_default-clause-told
returns-in_default-clause-told g c =
    c.in_ok-release.ensures.told ∙ ap (λ s. g.W.Watcher.told c.args.watcher.now ++ released_told g.W.Watcher.tells s) (c.learn_ready.ensures.same ∙ c.note_gone.ensures.same)

pub returns-in-Some-refusal-clause-told : goal.returns-in-Some-refusal-clause-told
returns-in-Some-refusal-clause-told g c =
    c.in_ok-release.ensures.told ∙ ap (λ s. g.W.Watcher.told c.args.watcher.now ++ released_told g.W.Watcher.tells s) (c.learn_ready.ensures.same ∙ c.note_gone.ensures.same)
