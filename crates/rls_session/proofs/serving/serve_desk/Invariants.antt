use Rattle.std.proofs.Common.{◌≡◌, ◌≤◌, true, false, length}
use Rattle.rls_session.specs.AsTold.{Exchanged, faults}
use Rattle.rls_session.specs.Devices.{devices}
use Rattle.rls_session.specs.Intake.{known_come}
use Rattle.rls_file.specs.Stored.{AreWritable}
use Rattle.rls_session.proofs.Stages.{Reaches}
use Rattle.rls_session.proofs.Reaching.{ReachesAs}
use Rattle.rls_session.proofs.serving.serve_desk.Given as goal

-- each end from here on is one of the session
abbrev pub invariant-loop : goal.invariant-loop
invariant-loop g l = record {
  fresh : l.intake.used ≡ 0;
  short : length l.intake.waiting ≤ 4096;
  writable : AreWritable l.desk.state;
  reaches : Reaches g.K.Keeper.store_gives l.fn.desk (g.S.Source.left l.fn.input) l.fn.keeper (devices g.K.Keeper.file g.K.Keeper.faults g.S.Source.left g.S.Source.faults g.W.Sink.told g.W.Sink.faults l.fn.keeper l.fn.input l.fn.output) l.desk (known_come l.intake (g.S.Source.left l.input)) l.intake.ended l.keeper (devices g.K.Keeper.file g.K.Keeper.faults g.S.Source.left g.S.Source.faults g.W.Sink.told g.W.Sink.faults l.keeper l.input l.output);
  as_told : Exchanged g.S.Source.read_gives g.W.Sink.write_gives false true l.intake.ended l.fn.input l.input l.fn.output l.output (ReachesAs g.K.Keeper.store_gives l.fn.desk l.fn.keeper (faults g.K.Keeper.faults g.S.Source.faults g.W.Sink.faults l.fn.keeper l.fn.input l.fn.output) l.desk l.intake l.keeper (faults g.K.Keeper.faults g.S.Source.faults g.W.Sink.faults l.keeper l.input l.output));
}
