use Rattle.std.proofs.Common.{Err, Ok, refl}
use Rattle.rls_top.proofs.Answered.{unopened_comes, worked_comes}
use Rattle.rls_top.proofs.OnFiles.{worked_ends}
use Rattle.rls_top.proofs.making.make_on_file.Goals as goal

pub returns-in-Err-clause-came : goal.returns-in-Err-clause-came
returns-in-Err-clause-came g c =
    rw c.from.ensures (unopened_comes g.K.Keeper.load_gives g.S.Source.read_gives c.args.keeper.now c.«open».new.keeper c.args.input.now c.args.input.now c.args.command c.in-Err.error c.in-Err.ensures.found refl)

pub returns-in-Ok-make_of : goal.returns-in-Ok-make_of
returns-in-Ok-make_of g c = record {
  ends = worked_ends c.args.command c.in-Ok.replica (Ok c.in-Ok-make_of.made) c.args.keeper.now c.«open».new.keeper c.args.input.now c.make_of.new.input c.in-Ok.ensures.opened c.in-Ok.ensures.calls c.in-Ok.ensures.kept (c.in-Ok.ensures.uncounted (λ h. cc)) c.in-Ok-make_of.ensures.ends;
  came = worked_comes g.K.Keeper.load_gives g.S.Source.read_gives c.args.keeper.now c.«open».new.keeper c.args.input.now c.make_of.new.input c.args.command c.in-Ok.replica (Ok c.in-Ok-make_of.made) c.in-Ok.ensures.found c.in-Ok-make_of.ensures.ends c.in-Ok-make_of.ensures.came;
}

pub returns : goal.returns
returns g c = record {
  ends = rw c.from-in-Err-make_of.ensures (worked_ends c.args.command c.in-Ok.replica (Err c.in-Err-make_of.error) c.args.keeper.now c.«open».new.keeper c.args.input.now c.make_of.new.input c.in-Ok.ensures.opened c.in-Ok.ensures.calls c.in-Ok.ensures.kept (c.in-Ok.ensures.uncounted (λ h. cc)) c.in-Err-make_of.ensures.ends);
  came = rw c.from-in-Err-make_of.ensures (worked_comes g.K.Keeper.load_gives g.S.Source.read_gives c.args.keeper.now c.«open».new.keeper c.args.input.now c.make_of.new.input c.args.command c.in-Ok.replica (Err c.in-Err-make_of.error) c.in-Ok.ensures.found c.in-Err-make_of.ensures.ends c.in-Err-make_of.ensures.came);
}
