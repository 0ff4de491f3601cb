use Rattle.std.proofs.Common.{◌≤◌, ◌-◌, ◌+◌, IsTrue, true, length}
use Rattle.rls_ident.specs.declared.limits.TheConstants.{INPUT_BYTES}
use Rattle.rls_session.specs.Seats.{IsDrafted, respond, seat_of, seated}
use Rattle.rls_session.specs.AsTold.{Exchanged}
use Rattle.rls_session.specs.Intake.{known_come}
use Rattle.rls_session.specs.Sessions.{by_parts}
use Rattle.rls_file.specs.Stored.{AreWritable}
use Rattle.rls_session.proofs.Exchanging.{Way}
use Rattle.rls_session.proofs.Loop.{OnWay}
use Rattle.rls_session.proofs.Sent.{AreSent}
use Rattle.rls_session.proofs.answering.answer_all.Given as goal

-- what was answered so far, and what is to come
abbrev pub invariant-loop-error : goal.invariant-loop-error
invariant-loop-error g l = record {
  ended : IsTrue l.fn.intake.ended → IsTrue l.intake.ended;
  short : length l.intake.waiting ≤ 4096;
  way : OnWay (respond by_parts) (seated l.fn.desk) (known_come l.fn.intake (g.S.Source.left l.fn.input)) (seat_of l.desk l.draft) l.intake (g.S.Source.left l.input) (g.W.Sink.told l.fn.output) (g.W.Sink.told l.output);
  drafted : IsDrafted by_parts (seat_of l.desk l.draft);
  writable : AreWritable l.fn.desk.state → AreWritable l.desk.state;
  sent : AreWritable l.fn.desk.state → AreSent (seated l.fn.desk) (known_come l.fn.intake (g.S.Source.left l.fn.input)) (seat_of l.desk l.draft) l.intake (g.S.Source.left l.input);
  as_told : Exchanged g.S.Source.read_gives g.W.Sink.write_gives l.fn.intake.ended true l.intake.ended l.fn.input l.input l.fn.output l.output (Way (seated l.fn.desk) l.fn.intake (AreWritable l.fn.desk.state) (seat_of l.desk l.draft) l.intake);
  input_never_falls : g.S.Source.faults l.fn.input ≤ g.S.Source.faults l.input;
  never_falls : g.W.Sink.faults l.fn.output ≤ g.W.Sink.faults l.output;
}

abbrev pub decreases-loop-error : goal.decreases-loop-error
decreases-loop-error g l = INPUT_BYTES + 2 - l.intake.used
