use Rattle.std.proofs.Common.{sym}
use Rattle.rls_model.specs.Answers.{reason_in}
use Rattle.rls_replica.proofs.Courses.{released_room, released_sums, fewer_counts, released_counts, unreleased_counts, unreleased_course}
use Rattle.rls_replica.proofs.Told.{released_course_told, unreleased_course_told}
use Rattle.rls_replica.proofs.replica.Replica.release_one.Goals as goal

pub count_release-requires : goal.count_release-requires
count_release-requires g c = record { room = released_room c.args.self.now c.args.taken.now c.sane.ensures.sane c.requires.counted }

pub returns-in_err-count_release-in-Some-clause-counted :
    goal.returns-in_err-count_release-in-Some-clause-counted
returns-in_err-count_release-in-Some-clause-counted g c =
    let s = c.args.self.now in
    let t = c.args.taken.now in
    let k = released_sums s c.sane.ensures.sane in
    rw (c.in_ok-release_watched.ensures.after, c.in_err-count_release-in-Some.ensures.err) (fewer_counts s t k c.requires.counted)

pub returns-in-None-clause-counted : goal.returns-in-None-clause-counted
returns-in-None-clause-counted g c =
    rw c.in_ok-release_watched.ensures.after (unreleased_counts c.args.self.now c.args.taken.now (rw c.in-None.is at c.in_ok-release_watched.ensures.answer) c.requires.counted)

pub returns-in-None-clause-step : goal.returns-in-None-clause-step
returns-in-None-clause-step g c =
    rw c.in_ok-release_watched.ensures.after (unreleased_course c.args.self.now c.args.taken.now (rw c.in-None.is at c.in_ok-release_watched.ensures.answer))

pub returns-in_ok-count_release-in-Some-clause-counted :
    goal.returns-in_ok-count_release-in-Some-clause-counted
returns-in_ok-count_release-in-Some-clause-counted g c =
    let r = c.in-Some.release in
    rw (c.in_ok-release_watched.ensures.after, c.in_ok-count_release-in-Some.ensures.ok)
    (released_counts c.args.self.now c.args.taken.now (record { author = r.author; seq = r.seq; refusal = reason_in r.refusal }) c.sane.ensures.sane
    (sym (rw c.in-Some.is at c.in_ok-release_watched.ensures.answer)) c.requires.counted)

pub returns-in-None-clause-told : goal.returns-in-None-clause-told
returns-in-None-clause-told g c =
    rw (c.in_ok-release_watched.ensures.after, c.in_ok-release_watched.ensures.told)
    (unreleased_course_told g.W.Watcher.tells c.args.self.now c.args.taken.now (g.W.Watcher.told c.args.watcher.now) (sym (rw c.in-None.is at c.in_ok-release_watched.ensures.answer)))

pub returns-in_ok-count_release-in-Some-clause-told :
    goal.returns-in_ok-count_release-in-Some-clause-told
returns-in_ok-count_release-in-Some-clause-told g c =
    rw (c.in_ok-release_watched.ensures.after, c.in_ok-release_watched.ensures.told, c.in_ok-count_release-in-Some.ensures.ok)
    (released_course_told g.W.Watcher.tells c.args.self.now c.args.taken.now (g.W.Watcher.told c.args.watcher.now) _ (sym (rw c.in-Some.is at c.in_ok-release_watched.ensures.answer)))
