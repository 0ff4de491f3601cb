use Rattle.std.proofs.Common.{◌≡◌, ◌∙◌, [], false, sym, ap, refl, rules}
use Rattle.std.specs.Prelude.{is_some}
use Rattle.rls_seen.specs.Seen.{Seen}
use Rattle.rls_seen.specs.Over.{release_over, released_all}
use Rattle.rls_seen.specs.Messages.{with_releases}
use Rattle.rls_seen.proofs.Repeating.{all_done, all_more, fewer_wait, part_more}
use Rattle.rls_seen.proofs.Releasing.{released_all_stands}
use Rattle.rls_replica.specs.Steps.{course}
use Rattle.rls_replica.proofs.Answered.{nothing_released}
use Rattle.rls_replica.proofs.Courses.{none_released, step_done, releases_done, releases_more, parts_sum}
use Rattle.rls_replica.proofs.KeptNames.{all_names, part_released_names}
use Rattle.rls_model.specs.Machine.{release_all_on}
use Rattle.rls_replica.specs.Watching.{watched}
use Rattle.rls_replica.proofs.Told.{all_told_done, more_steps, no_steps, releases_told, told_done, told_more}
use Rattle.rls_replica.proofs.replica.Replica.release_all_watched.Goals as goal

-- ---- nothing waits

idle : (s : Seen) → s.waiting ≡ [] → is_some (release_over s) ≡ false
idle s e = ap is_some (nothing_released s e)

pub returns-then-none_waits-clause-ok : goal.returns-then-none_waits-clause-ok
returns-then-none_waits-clause-ok g c = sym (releases_done (course c.args.self.now c.args.taken.now) (idle c.args.self.now (c.none_waits.ensures.none c.if-none_waits.true)))

pub returns-then-none_waits-clause-after : goal.returns-then-none_waits-clause-after
returns-then-none_waits-clause-after g c = sym (all_done c.args.self.now (idle c.args.self.now (c.none_waits.ensures.none c.if-none_waits.true)))

pub returns-then-none_waits-clause-stands : goal.returns-then-none_waits-clause-stands
returns-then-none_waits-clause-stands g c = λ t h. rw (returns-then-none_waits-clause-after g c) (released_all_stands c.args.self.now t h)

pub returns-then-none_waits-clause-names : goal.returns-then-none_waits-clause-names
returns-then-none_waits-clause-names g c = λ e h. h

-- ---- one after another

pub releases-init : goal.releases-init
releases-init g c = record {
  all = refl;
  course = refl;
  seen = refl;
  part = (0, refl);
  counted = c.requires.counted;
  arrived = λ n h. h;
  steps = no_steps g.W.Watcher.tells _ _ _ _ refl refl;
}

pub returns-in_err-release_one-clause-err : goal.returns-in_err-release_one-clause-err
returns-in_err-release_one-clause-err g c =
    let k = parts_sum c.args.self.now c.releases.self c.release_one.new.self c.releases.invariant.part c.in_err-release_one.ensures.err in
    search rules

pub releases-preserved : goal.releases-preserved
releases-preserved g c =
    let s = c.releases.self in
    let e = c.in_ok-release_one.ensures in
    let some = sym e.some ∙ c.if-branch.true in
    record {
      course =
          ap (release_all_on (watched g.W.Watcher.tells)) e.told
          ∙ (told_more g.W.Watcher.tells s c.releases.taken (g.W.Watcher.told c.releases.watcher) e.sane some ∙ c.releases.invariant.course);
      all = ap with_releases e.step ∙ (releases_more (course s c.releases.taken) refl e.sane some ∙ c.releases.invariant.all);
      seen = ap released_all e.after ∙ (all_more s e.sane some ∙ c.releases.invariant.seen);
      part = rw e.after (part_more c.args.self.now s c.releases.invariant.part);
      counted = e.counted;
      steps = more_steps g.W.Watcher.tells _ _ _ _ _ _ c.releases.invariant.steps e.steps;
      arrived = λ n h. e.arrived n (c.releases.invariant.arrived n h);
    }

pub releases-smaller : goal.releases-smaller
releases-smaller g c =
    let e = c.in_ok-release_one.ensures in
    let k = fewer_wait c.releases.self e.sane (sym e.some ∙ c.if-branch.true) in
    rw e.after k

pub returns-clause-ok : goal.returns-clause-ok
returns-clause-ok g c =
    let e = c.in_ok-release_one.ensures in
    let d = course c.releases.self c.releases.taken in
    let none = sym e.some ∙ c.if-branch.false in
    e.step ∙ (step_done d none ∙ (sym (releases_done d none) ∙ c.releases.invariant.all))

pub returns-clause-after : goal.returns-clause-after
returns-clause-after g c =
    let e = c.in_ok-release_one.ensures in
    let none = sym e.some ∙ c.if-branch.false in
    e.after ∙ (none_released c.releases.self none ∙ (sym (all_done c.releases.self none) ∙ c.releases.invariant.seen))

pub returns-clause-stands : goal.returns-clause-stands
returns-clause-stands g c = λ t h. rw (returns-clause-after g c) (released_all_stands c.args.self.now t h)

pub returns-in_err-release_one-clause-names : goal.returns-in_err-release_one-clause-names
returns-in_err-release_one-clause-names g c =
    part_released_names c.args.self.now c.release_one.new.self (parts_sum c.args.self.now c.releases.self c.release_one.new.self c.releases.invariant.part c.in_err-release_one.ensures.err)

pub returns-clause-names : goal.returns-clause-names
returns-clause-names g c = rw (returns-clause-after g c) (all_names c.args.self.now)

-- ---- what is told

pub returns-then-none_waits-clause-course : goal.returns-then-none_waits-clause-course
returns-then-none_waits-clause-course g c =
    sym (all_told_done g.W.Watcher.tells c.args.self.now c.args.taken.now (g.W.Watcher.told c.args.watcher.now) (idle c.args.self.now (c.none_waits.ensures.none c.if-none_waits.true)))

pub returns-then-none_waits-clause-told : goal.returns-then-none_waits-clause-told
returns-then-none_waits-clause-told g c =
    releases_told g.W.Watcher.tells c.args.self.now c.args.self.now c.args.taken.now c.args.taken.now (g.W.Watcher.told c.args.watcher.now) (g.W.Watcher.told c.args.watcher.now) (returns-then-none_waits-clause-course g c)

pub returns-then-none_waits-clause-steps : goal.returns-then-none_waits-clause-steps
returns-then-none_waits-clause-steps g c = no_steps g.W.Watcher.tells _ _ _ _ refl refl

pub returns-in_err-release_one-clause-arrived : goal.returns-in_err-release_one-clause-arrived
returns-in_err-release_one-clause-arrived g c = λ n h. c.in_err-release_one.ensures.arrived n (c.releases.invariant.arrived n h)

pub returns-in_err-release_one-clause-steps : goal.returns-in_err-release_one-clause-steps
returns-in_err-release_one-clause-steps g c = more_steps g.W.Watcher.tells _ _ _ _ _ _ c.releases.invariant.steps c.in_err-release_one.ensures.steps

pub returns-clause-course : goal.returns-clause-course
returns-clause-course g c =
    let e = c.in_ok-release_one.ensures in
    let tells = g.W.Watcher.tells in
    let ts = g.W.Watcher.told c.releases.watcher in
    let none = sym e.some ∙ c.if-branch.false in
    e.told ∙ (told_done tells c.releases.self c.releases.taken ts none ∙ (sym (all_told_done tells c.releases.self c.releases.taken ts none) ∙ c.releases.invariant.course))

pub returns-clause-told : goal.returns-clause-told
returns-clause-told g c =
    releases_told g.W.Watcher.tells c.args.self.now c.release_one.new.self c.args.taken.now c.release_one.new.taken (g.W.Watcher.told c.args.watcher.now) (g.W.Watcher.told c.release_one.new.watcher) (returns-clause-course g c)

pub returns-clause-steps : goal.returns-clause-steps
returns-clause-steps g c = more_steps g.W.Watcher.tells _ _ _ _ _ _ c.releases.invariant.steps c.in_ok-release_one.ensures.steps
