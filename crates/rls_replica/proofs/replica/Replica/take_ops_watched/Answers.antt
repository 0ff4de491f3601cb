use Rattle.std.proofs.Common.{◌∙◌, ◌+◌, ℕ, None, Some, length, sym, ap, subst, rules, arith}
use Rattle.rls_model.specs.Receiving.{State}
use Rattle.rls_model.specs.Taking as model
use Rattle.rls_seen.specs.Messages.{started, taken_of}
use Rattle.rls_seen.specs.Stands.{StandsFor}
use Rattle.rls_replica.specs.Steps.{course, IsPartOfOps, IsOnWay}
use Rattle.rls_replica.proofs.Cut.{ops_part_stands}
use Rattle.rls_replica.proofs.Courses.{none_left, ops_all_stands}
use Rattle.rls_replica.proofs.KeptNames.{ops_names, part_of_ops_names}
use Rattle.rls_model.specs.Machine.{take_on}
use Rattle.rls_replica.specs.Watching.{told_course, watched}
use Rattle.rls_replica.proofs.Told.{more_steps}
use Rattle.rls_replica.proofs.replica.Replica.take_ops_watched.Goals as goal

pub taking-preserved : goal.taking-preserved
taking-preserved g c =
    let e = c.in_ok-take_one.ensures in
    let few = c.taking.invariant.few in
    record {
      way = e.ok c.args.self.now c.args.ops c.pop_first.new.self (subst (IsOnWay c.args.self.now c.args.ops (course c.taking.self c.taking.taken)) c.in-Some.ensures.first c.taking.invariant.way);
      told =
          ap (λ d. take_on (watched g.W.Watcher.tells) d c.pop_first.new.self) e.told
          ∙ (sym (ap (take_on (watched g.W.Watcher.tells) (told_course c.taking.self c.taking.taken (g.W.Watcher.told c.taking.watcher))) c.in-Some.ensures.first) ∙ c.taking.invariant.told);
      steps = more_steps g.W.Watcher.tells _ _ _ _ _ _ c.taking.invariant.steps e.steps;
      counted = e.counted;
      few = (few.0 + 1, omega (arith, ap length c.in-Some.ensures.first, few.1), e.arrived few.0 few.2);
    }

pub returns-in_err-take_one-clause-err : goal.returns-in_err-take_one-clause-err
returns-in_err-take_one-clause-err g c =
    let part : IsPartOfOps c.args.self.now c.args.ops c.take_one.new.self = c.in_err-take_one.ensures.err c.args.self.now c.args.ops c.pop_first.new.self (subst (IsOnWay c.args.self.now c.args.ops (course c.taking.self c.taking.taken)) c.in-Some.ensures.first c.taking.invariant.way) in
    search rules

pub returns-in_err-take_one-clause-part : goal.returns-in_err-take_one-clause-part
returns-in_err-take_one-clause-part g c =
    let part : IsPartOfOps c.args.self.now c.args.ops c.take_one.new.self = c.in_err-take_one.ensures.err c.args.self.now c.args.ops c.pop_first.new.self (subst (IsOnWay c.args.self.now c.args.ops (course c.taking.self c.taking.taken)) c.in-Some.ensures.first c.taking.invariant.way) in
    let stands : (t : State) → StandsFor c.args.self.now t → (n : ℕ) × StandsFor c.take_one.new.self (model.take_ops (model.started (Some n) t) c.args.ops).state =
    λ t h. ops_part_stands c.args.self.now c.take_one.new.self t c.args.ops c.fits.ensures.whole part h in
    search rules

pub returns-clause-taken : goal.returns-clause-taken
returns-clause-taken g c =
    sym (ap taken_of (none_left c.args.self.now c.taking.self c.taking.taken c.args.ops c.taking.rest c.in_default.ensures.none.0 c.taking.invariant.way))

pub returns-clause-after : goal.returns-clause-after
returns-clause-after g c =
    sym (ap (λ d. d.state) (none_left c.args.self.now c.taking.self c.taking.taken c.args.ops c.taking.rest c.in_default.ensures.none.0 c.taking.invariant.way))

pub returns-clause-stands : goal.returns-clause-stands
returns-clause-stands g c = λ t h.
    ops_all_stands c.args.self.now c.taking.self c.taking.taken t c.args.ops c.fits.ensures.whole
    (none_left c.args.self.now c.taking.self c.taking.taken c.args.ops c.taking.rest c.in_default.ensures.none.0 c.taking.invariant.way) h

pub returns-in_err-take_one-clause-names : goal.returns-in_err-take_one-clause-names
returns-in_err-take_one-clause-names g c = part_of_ops_names c.args.self.now c.take_one.new.self c.args.ops (c.in_err-take_one.ensures.err c.args.self.now c.args.ops c.pop_first.new.self (subst (IsOnWay c.args.self.now c.args.ops (course c.taking.self c.taking.taken)) c.in-Some.ensures.first c.taking.invariant.way))

pub returns-clause-names : goal.returns-clause-names
returns-clause-names g c = rw (returns-clause-after g c) (ops_names c.args.ops (started None c.args.self.now))

pub returns-clause-told : goal.returns-clause-told
returns-clause-told g c =
    sym (ap (take_on (watched g.W.Watcher.tells) (told_course c.taking.self c.taking.taken (g.W.Watcher.told c.taking.watcher))) c.in_default.ensures.none.0) ∙ c.taking.invariant.told

pub returns-in_err-take_one-clause-steps : goal.returns-in_err-take_one-clause-steps
returns-in_err-take_one-clause-steps g c = more_steps g.W.Watcher.tells _ _ _ _ _ _ c.taking.invariant.steps c.in_err-take_one.ensures.steps
