use Rattle.std.proofs.Common.{◌∙◌, ◌∷◌, ◌+◌, false, List, ap, subst, rules}
use Rattle.rls_ops.specs.declared.op.Op.{Op}
use Rattle.rls_model.specs.Answers.{answer_of}
use Rattle.rls_model.specs.Machine.{release_all_on, with_receipt}
use Rattle.rls_seen.specs.Seen.{Seen}
use Rattle.rls_seen.specs.Over.{answer_over, received, IsPartReleased}
use Rattle.rls_seen.specs.Messages.{with_releases}
use Rattle.rls_seen.specs.Sane.{IsSane}
use Rattle.rls_replica.specs.Steps.{course, IsOnWay, IsPartOfOps}
use Rattle.rls_replica.proofs.Courses.{taken_none, taken_received, taken_part, taken_all, received_counts, unreceived_counts, received_few}
use Rattle.rls_replica.specs.Watching.{told_course, watched}
use Rattle.rls_replica.proofs.Told.{more_steps}
use Rattle.rls_replica.proofs.replica.Replica.take_one.Goals as goal

pub returns-in_err-receipt-clause-err : goal.returns-in_err-receipt-clause-err
returns-in_err-receipt-clause-err g c =
    let r = c.args.self.now in
    let t = c.args.taken.now in
    let k : (s : Seen) (os rest : List Op) → IsOnWay s os (course r t) (c.args.op ∷ rest) → IsPartOfOps s os c.receive_watched.new.self = λ s os rest w. rw c.in_err-receipt.ensures.err (taken_none s r t os (c.args.op ∷ rest) w) in
    search rules

pub returns-in_err-count_receipt-clause-counted : goal.returns-in_err-count_receipt-clause-counted
returns-in_err-count_receipt-clause-counted g c =
    rw (c.in_ok-receipt.ensures.after, c.in_err-count_receipt.ensures.err) (unreceived_counts c.args.self.now c.args.taken.now c.args.op c.requires.counted)

pub returns-in_err-count_receipt-clause-err : goal.returns-in_err-count_receipt-clause-err
returns-in_err-count_receipt-clause-err g c =
    let r = c.args.self.now in
    let t = c.args.taken.now in
    let after = c.in_ok-receipt.ensures.after in
    let k : (s : Seen) (os rest : List Op) → IsOnWay s os (course r t) (c.args.op ∷ rest) → IsPartOfOps s os c.receive_watched.new.self =
    λ s os rest w. rw after (taken_received s r t c.args.op os rest (subst IsSane after c.sane-2.ensures.sane) w) in
    search rules

pub release_all_watched-requires : goal.release_all_watched-requires
release_all_watched-requires g c = record {
  counted = rw (c.in_ok-receipt.ensures.after, c.in_ok-count_receipt.ensures.ok) (received_counts c.args.self.now c.args.taken.now c.args.op (answer_of c.in_ok-receipt.receipt) c.requires.counted);
}

pub returns-in_err-release_all_watched-clause-err : goal.returns-in_err-release_all_watched-clause-err
returns-in_err-release_all_watched-clause-err g c =
    let r = c.args.self.now in
    let t = c.args.taken.now in
    let u = c.release_all_watched.new.self in
    let after = c.in_ok-receipt.ensures.after in
    let part : IsPartReleased (received r c.args.op) u = subst (λ x. IsPartReleased x u) after c.in_err-release_all_watched.ensures.err in
    let k : (s : Seen) (os rest : List Op) → IsOnWay s os (course r t) (c.args.op ∷ rest) → IsPartOfOps s os u = λ s os rest w. taken_part s r u t c.args.op os rest (subst IsSane after c.sane-2.ensures.sane) part w in
    search rules

pub returns-in_err-release_all_watched-clause-arrived : goal.returns-in_err-release_all_watched-clause-arrived
returns-in_err-release_all_watched-clause-arrived g c =
    λ n h. c.in_err-release_all_watched.ensures.arrived (n + 1) (received_few n c.args.taken.now c.count_receipt.new.self c.args.op (answer_of c.in_ok-receipt.receipt) c.in_ok-count_receipt.ensures.ok h)

pub returns-clause-arrived : goal.returns-clause-arrived
returns-clause-arrived g c =
    λ n h. c.in_ok-release_all_watched.ensures.arrived (n + 1) (received_few n c.args.taken.now c.count_receipt.new.self c.args.op (answer_of c.in_ok-receipt.receipt) c.in_ok-count_receipt.ensures.ok h)

pub returns-clause-ok : goal.returns-clause-ok
returns-clause-ok g c = λ s os rest w.
    let r = c.args.self.now in
    let t = c.args.taken.now in
    let o = c.args.op in
    let after = c.in_ok-receipt.ensures.after in
    let counted = c.in_ok-count_receipt.ensures.ok ∙ ap (with_receipt t o.author o.seq) c.in_ok-receipt.ensures.answer in
    taken_all s r c.release_all_watched.new.self t c.release_all_watched.new.taken o os rest (subst IsSane after c.sane-2.ensures.sane)
    (c.in_ok-release_all_watched.ensures.ok ∙ ap with_releases (ap (λ x. course x c.count_receipt.new.self) after ∙ ap (course (received r o)) counted)) w

-- ---- what is told

pub returns-in_err-release_all_watched-clause-steps :
    goal.returns-in_err-release_all_watched-clause-steps
returns-in_err-release_all_watched-clause-steps g c =
    more_steps g.W.Watcher.tells _ _ _ _ _ _ c.in_ok-receipt.ensures.steps c.in_err-release_all_watched.ensures.steps

pub returns-clause-steps : goal.returns-clause-steps
returns-clause-steps g c =
    more_steps g.W.Watcher.tells _ _ _ _ _ _ c.in_ok-receipt.ensures.steps c.in_ok-release_all_watched.ensures.steps

pub returns-clause-told : goal.returns-clause-told
returns-clause-told g c =
    let r = c.args.self.now in
    let t = c.args.taken.now in
    let o = c.args.op in
    let e = c.in_ok-receipt.ensures in
    let us = g.W.Watcher.told c.receive_watched.new.watcher in
    let counted = c.in_ok-count_receipt.ensures.ok ∙ ap (with_receipt t o.author o.seq) e.answer in
    c.in_ok-release_all_watched.ensures.course
    ∙ ap (release_all_on (watched g.W.Watcher.tells))
    (ap (λ x. told_course x c.count_receipt.new.self us) e.after
    ∙ (ap (λ x. told_course (received r o) x us) counted
    ∙ ap (λ ts. told_course (received r o) (with_receipt t o.author o.seq (answer_over false r o)) ts) e.told))
