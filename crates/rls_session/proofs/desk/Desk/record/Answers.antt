use Rattle.std.proofs.Common.{◌≡◌, ◌∙◌, ap, sym, subst, None}
use Rattle.rls_seen.specs.Edits.{edit_fault_over, made_over}
use Rattle.rls_seen.specs.Seen.{Seen}
use Rattle.rls_session.specs.Answers.{Sitting, made_sitting}
use Rattle.rls_session.specs.Desks.{sitting_of}
use Rattle.rls_session.specs.Sessions.{by_parts}
use Rattle.rls_session.proofs.Answered.{made_said}
use Rattle.rls_session.proofs.Whole.{whole_on, whole_recorded}
use Rattle.rls_session.proofs.desk.Desk.record.Goals as goal

pub invariant_of-self-2 : goal.invariant_of-self-2
invariant_of-self-2 c = let s = c.self.inside in whole_recorded c.record_own.result s.replica s.undo c.record_own.new.self s.cursors c.args.edit.now c.record_own.ensures.ok c.record_own.ensures.err c.self.invariant

pub invariant_of-self-3 : goal.invariant_of-self-3
invariant_of-self-3 c = let s = c.self-2.inside in whole_on s.replica c.accept_own.new.replica s.undo s.cursors c.accept_own.ensures.names c.self-2.invariant

pub accept_own-requires : goal.accept_own-requires
accept_own-requires c =
    let state : Sitting Seen → Seen = λ x. x.state in
    let same : c.args.self.now.state ≡ c.self-2.inside.replica = sym (ap state (c.self-2.view_is ∙ c.begin.ensures.begun) ∙ ap state c.self.view_is) in
    record {
      fits = subst (λ (s : Seen). edit_fault_over s c.args.edit.now ≡ None) same c.requires.fits;
      op = c.requires.op ∙ ap (λ (s : Seen). made_over s c.args.edit.now) same;
    }

pub returns-clause-recorded : goal.returns-clause-recorded
returns-clause-recorded c =
    let s = c.self.inside in
    let b = c.self-2.inside in
    let d = sitting_of s.replica s.undo s.cursors s.steps s.tells in
    subst (λ (x : Sitting Seen). c.keep_within.new.self ≡ made_sitting by_parts x c.args.edit.now) c.self.view_is
    (made_said d (sitting_of b.replica b.undo b.cursors b.steps b.tells) c.keep_within.new.self c.record_own.new.self c.accept_own.new.replica c.accept_own.new.self c.args.edit.now (c.self-2.view_is ∙ c.begin.ensures.begun) c.in-Ok.ensures.ok c.in-Ok-accept_own.ensures.after c.in-Ok-accept_own.ensures.exact c.in_ok-keep_within.ensures.kept)
