use Rattle.std.proofs.Common.{Err, Ok, refl}
use Rattle.rls_top.proofs.Answered.{new_comes, trial_comes}
use Rattle.rls_top.proofs.making.make.Goals as goal

pub returns-in-Ok-clause-came : goal.returns-in-Ok-clause-came
returns-in-Ok-clause-came g c =
    let new = c.in-New in
    let made = c.in-Ok in
    rw new.is (new_comes g.K.Keeper.load_gives g.S.Source.read_gives c.args.keeper.now c.make_new.new.keeper c.args.input.now c.args.input.now (g.K.Keeper.file c.args.keeper.now) new.group new.me new.members (Ok made.made) made.ensures.found made.ensures.uncalled made.ensures.due refl)

pub returns-in-Err-clause-came : goal.returns-in-Err-clause-came
returns-in-Err-clause-came g c =
    let new = c.in-New in
    let e = c.in-Err in
    rw (new.is, c.from.ensures) (new_comes g.K.Keeper.load_gives g.S.Source.read_gives c.args.keeper.now c.make_new.new.keeper c.args.input.now c.args.input.now (g.K.Keeper.file c.args.keeper.now) new.group new.me new.members (Err e.error) e.ensures.found e.ensures.uncalled e.ensures.due refl)

pub returns-in-Ok-show_trial-clause-came : goal.returns-in-Ok-show_trial-clause-came
returns-in-Ok-show_trial-clause-came g c =
    let trial = c.in-Trial in
    let made = c.in-Ok-show_trial in
    rw trial.is (trial_comes g.K.Keeper.load_gives g.S.Source.read_gives c.args.keeper.now c.args.keeper.now c.args.input.now c.args.input.now trial.seed trial.steps (Ok made.made) made.ensures.due refl refl)
