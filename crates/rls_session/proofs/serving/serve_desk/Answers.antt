use Rattle.std.proofs.Common.{◌≤◌, true, Err, Ok, ap, arith, length, subst, sym}
use Rattle.rls_report.specs.declared.failures.Failure.{Failure}
use Rattle.rls_session.specs.declared.answering.Halt.{Halt}
use Rattle.rls_session.specs.AsTold.{Exchanged, StretchAs, faults}
use Rattle.rls_session.specs.Devices.{devices}
use Rattle.rls_session.specs.Intake.{IntakeSeen, known_come}
use Rattle.rls_session.specs.Serving.{EndsOrGoesOn, StageEnds}
use Rattle.rls_session.proofs.Reaching.{begins_as, ends_as, fails_as, goes_as, memory_as}
use Rattle.rls_session.proofs.Stages.{goes_on, memory_ends, near_now, reaches_first}
use Rattle.rls_session.proofs.serving.serve_desk.Goals as goal

pub loop-init : goal.loop-init
loop-init g c = record {
  fresh = ap (λ (a : IntakeSeen). a.used) c.new-intake.ensures.new;
  short = subst (λ (a : IntakeSeen). length a.waiting ≤ 4096) (sym c.new-intake.ensures.new) (omega arith);
  writable = c.requires.writable;
  reaches = reaches_first g.K.Keeper.store_gives c.args.desk.now c.new-intake.result (g.S.Source.left c.args.input.now) c.args.keeper.now (devices g.K.Keeper.file g.K.Keeper.faults g.S.Source.left g.S.Source.faults g.W.Sink.told g.W.Sink.faults c.args.keeper.now c.args.input.now c.args.output.now) c.new-intake.ensures.new;
  as_told = begins_as g.K.Keeper.store_gives g.S.Source.read_gives g.W.Sink.write_gives c.args.desk.now c.args.keeper.now (faults g.K.Keeper.faults g.S.Source.faults g.W.Sink.faults c.args.keeper.now c.args.input.now c.args.output.now) c.new-intake.result c.args.input.now c.args.output.now c.new-intake.ensures.new;
}

pub returns-in-Err : goal.returns-in-Err
returns-in-Err g c = record { ends = c.loop.invariant.reaches (Err c.in-Err.failure) c.serve_stretch.new.keeper (devices g.K.Keeper.file g.K.Keeper.faults g.S.Source.left g.S.Source.faults g.W.Sink.told g.W.Sink.faults c.serve_stretch.new.keeper c.serve_stretch.new.input c.serve_stretch.new.output) c.in-Err.ensures.ends; as_told = fails_as g.K.Keeper.store_gives g.S.Source.read_gives g.W.Sink.write_gives c.args.desk.now c.args.keeper.now (faults g.K.Keeper.faults g.S.Source.faults g.W.Sink.faults c.args.keeper.now c.args.input.now c.args.output.now) c.loop.desk c.loop.intake c.loop.keeper (faults g.K.Keeper.faults g.S.Source.faults g.W.Sink.faults c.loop.keeper c.loop.input c.loop.output) c.args.input.now c.loop.input c.args.output.now c.loop.output c.loop.invariant.as_told c.in-Err.failure c.serve_stretch.new.desk c.serve_stretch.new.intake c.serve_stretch.new.keeper (faults g.K.Keeper.faults g.S.Source.faults g.W.Sink.faults c.serve_stretch.new.keeper c.serve_stretch.new.input c.serve_stretch.new.output) c.serve_stretch.new.input c.serve_stretch.new.output c.in-Err.ensures.as_told }

pub returns-in-Ok-End : goal.returns-in-Ok-End
returns-in-Ok-End g c = record {
  ends = c.loop.invariant.reaches (Ok tt) c.serve_stretch.new.keeper (devices g.K.Keeper.file g.K.Keeper.faults g.S.Source.left g.S.Source.faults g.W.Sink.told g.W.Sink.faults c.serve_stretch.new.keeper c.serve_stretch.new.input c.serve_stretch.new.output)
      (subst (λ (halt : Halt). EndsOrGoesOn g.K.Keeper.store_gives c.loop.desk (known_come c.loop.intake (g.S.Source.left c.loop.input)) c.loop.intake.ended c.serve_stretch.new.desk (known_come c.serve_stretch.new.intake (g.S.Source.left c.serve_stretch.new.input)) c.serve_stretch.new.intake.ended (Ok halt) c.loop.keeper c.serve_stretch.new.keeper (devices g.K.Keeper.file g.K.Keeper.faults g.S.Source.left g.S.Source.faults g.W.Sink.told g.W.Sink.faults c.loop.keeper c.loop.input c.loop.output) (devices g.K.Keeper.file g.K.Keeper.faults g.S.Source.left g.S.Source.faults g.W.Sink.told g.W.Sink.faults c.serve_stretch.new.keeper c.serve_stretch.new.input c.serve_stretch.new.output)) c.in-Ok-End.field-0-is c.in-Ok-End.ensures.ends);
  as_told = ends_as g.K.Keeper.store_gives g.S.Source.read_gives g.W.Sink.write_gives c.args.desk.now c.args.keeper.now (faults g.K.Keeper.faults g.S.Source.faults g.W.Sink.faults c.args.keeper.now c.args.input.now c.args.output.now) c.loop.desk c.loop.intake c.loop.keeper (faults g.K.Keeper.faults g.S.Source.faults g.W.Sink.faults c.loop.keeper c.loop.input c.loop.output) c.args.input.now c.loop.input c.args.output.now c.loop.output c.loop.invariant.as_told c.serve_stretch.new.desk c.serve_stretch.new.intake c.serve_stretch.new.keeper (faults g.K.Keeper.faults g.S.Source.faults g.W.Sink.faults c.serve_stretch.new.keeper c.serve_stretch.new.input c.serve_stretch.new.output) c.serve_stretch.new.input c.serve_stretch.new.output (subst (λ (halt : Halt). Exchanged g.S.Source.read_gives g.W.Sink.write_gives c.loop.intake.ended true c.serve_stretch.new.intake.ended c.loop.input c.serve_stretch.new.input c.loop.output c.serve_stretch.new.output (StretchAs g.K.Keeper.store_gives c.loop.desk c.serve_stretch.new.desk c.loop.intake c.serve_stretch.new.intake (Ok halt) c.loop.keeper c.serve_stretch.new.keeper (faults g.K.Keeper.faults g.S.Source.faults g.W.Sink.faults c.loop.keeper c.loop.input c.loop.output) (faults g.K.Keeper.faults g.S.Source.faults g.W.Sink.faults c.serve_stretch.new.keeper c.serve_stretch.new.input c.serve_stretch.new.output))) c.in-Ok-End.field-0-is c.in-Ok-End.ensures.as_told);
}

pub loop-preserved : goal.loop-preserved
loop-preserved g c = record {
  fresh = c.in-Ok-Store.ensures.fresh (ap Ok c.in-Ok-Store.field-0-is);
  short = c.in-Ok-Store.ensures.short;
  writable = c.in-Ok-Store.ensures.writable (ap Ok c.in-Ok-Store.field-0-is);
  reaches = λ r l new h. c.loop.invariant.reaches r l new
      (goes_on g.K.Keeper.store_gives c.loop.desk c.serve_stretch.new.desk (known_come c.loop.intake (g.S.Source.left c.loop.input)) (known_come c.serve_stretch.new.intake (g.S.Source.left c.serve_stretch.new.input)) c.loop.intake.ended c.serve_stretch.new.intake.ended r c.loop.keeper c.serve_stretch.new.keeper l (devices g.K.Keeper.file g.K.Keeper.faults g.S.Source.left g.S.Source.faults g.W.Sink.told g.W.Sink.faults c.loop.keeper c.loop.input c.loop.output) (devices g.K.Keeper.file g.K.Keeper.faults g.S.Source.left g.S.Source.faults g.W.Sink.told g.W.Sink.faults c.serve_stretch.new.keeper c.serve_stretch.new.input c.serve_stretch.new.output) new
      (subst (λ (halt : Halt). EndsOrGoesOn g.K.Keeper.store_gives c.loop.desk (known_come c.loop.intake (g.S.Source.left c.loop.input)) c.loop.intake.ended c.serve_stretch.new.desk (known_come c.serve_stretch.new.intake (g.S.Source.left c.serve_stretch.new.input)) c.serve_stretch.new.intake.ended (Ok halt) c.loop.keeper c.serve_stretch.new.keeper (devices g.K.Keeper.file g.K.Keeper.faults g.S.Source.left g.S.Source.faults g.W.Sink.told g.W.Sink.faults c.loop.keeper c.loop.input c.loop.output) (devices g.K.Keeper.file g.K.Keeper.faults g.S.Source.left g.S.Source.faults g.W.Sink.told g.W.Sink.faults c.serve_stretch.new.keeper c.serve_stretch.new.input c.serve_stretch.new.output)) c.in-Ok-Store.field-0-is c.in-Ok-Store.ensures.ends) h);
  as_told = goes_as g.K.Keeper.store_gives g.S.Source.read_gives g.W.Sink.write_gives c.args.desk.now c.args.keeper.now (faults g.K.Keeper.faults g.S.Source.faults g.W.Sink.faults c.args.keeper.now c.args.input.now c.args.output.now) c.loop.desk c.loop.intake c.loop.keeper (faults g.K.Keeper.faults g.S.Source.faults g.W.Sink.faults c.loop.keeper c.loop.input c.loop.output) c.args.input.now c.loop.input c.args.output.now c.loop.output c.loop.invariant.as_told c.serve_stretch.new.desk c.serve_stretch.new.intake c.serve_stretch.new.keeper (faults g.K.Keeper.faults g.S.Source.faults g.W.Sink.faults c.serve_stretch.new.keeper c.serve_stretch.new.input c.serve_stretch.new.output) c.serve_stretch.new.input c.serve_stretch.new.output (subst (λ (halt : Halt). Exchanged g.S.Source.read_gives g.W.Sink.write_gives c.loop.intake.ended true c.serve_stretch.new.intake.ended c.loop.input c.serve_stretch.new.input c.loop.output c.serve_stretch.new.output (StretchAs g.K.Keeper.store_gives c.loop.desk c.serve_stretch.new.desk c.loop.intake c.serve_stretch.new.intake (Ok halt) c.loop.keeper c.serve_stretch.new.keeper (faults g.K.Keeper.faults g.S.Source.faults g.W.Sink.faults c.loop.keeper c.loop.input c.loop.output) (faults g.K.Keeper.faults g.S.Source.faults g.W.Sink.faults c.serve_stretch.new.keeper c.serve_stretch.new.input c.serve_stretch.new.output))) c.in-Ok-Store.field-0-is c.in-Ok-Store.ensures.as_told);
}

pub returns : goal.returns
returns g c = record {
  ends = c.loop.invariant.reaches (Err c.of_fault.result) c.loop.keeper (devices g.K.Keeper.file g.K.Keeper.faults g.S.Source.left g.S.Source.faults g.W.Sink.told g.W.Sink.faults c.loop.keeper c.loop.input c.loop.output)
      (subst (λ (f : Failure). StageEnds g.K.Keeper.store_gives c.loop.desk (known_come c.loop.intake (g.S.Source.left c.loop.input)) c.loop.intake.ended (Err f) c.loop.keeper c.loop.keeper (devices g.K.Keeper.file g.K.Keeper.faults g.S.Source.left g.S.Source.faults g.W.Sink.told g.W.Sink.faults c.loop.keeper c.loop.input c.loop.output) (devices g.K.Keeper.file g.K.Keeper.faults g.S.Source.left g.S.Source.faults g.W.Sink.told g.W.Sink.faults c.loop.keeper c.loop.input c.loop.output)) (sym c.of_fault.ensures.fault)
      (memory_ends g.K.Keeper.store_gives c.loop.desk (known_come c.loop.intake (g.S.Source.left c.loop.input)) c.loop.intake.ended c.loop.keeper (g.K.Keeper.file c.loop.keeper) (g.S.Source.left c.loop.input) (g.W.Sink.told c.loop.output) (g.K.Keeper.faults c.loop.keeper) (g.S.Source.faults c.loop.input) (g.W.Sink.faults c.loop.output)
      (near_now c.loop.desk c.loop.intake (g.S.Source.left c.loop.input) c.loop.invariant.short)));
  as_told = memory_as g.K.Keeper.store_gives g.S.Source.read_gives g.W.Sink.write_gives c.args.desk.now c.args.keeper.now (faults g.K.Keeper.faults g.S.Source.faults g.W.Sink.faults c.args.keeper.now c.args.input.now c.args.output.now) c.loop.desk c.loop.intake c.loop.keeper (faults g.K.Keeper.faults g.S.Source.faults g.W.Sink.faults c.loop.keeper c.loop.input c.loop.output) c.args.input.now c.loop.input c.args.output.now c.loop.output c.loop.invariant.as_told c.of_fault.result c.of_fault.ensures.fault c.loop.invariant.short;
}
