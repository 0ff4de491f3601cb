use Rattle.std.proofs.Common.{◌≡◌, ◌+◌, ◌≤◌, ◌-◌, length, take, true, IsTrue}
use Rattle.std.specs.List.{position_or_len}
use Rattle.rls_ident.specs.declared.limits.TheConstants.{INPUT_BYTES}
use Rattle.rls_io.specs.Device.{Keeps}
use Rattle.rls_script.specs.Scripts.{is_line_feed}
use Rattle.rls_session.specs.AsTold.{Given, Took}
use Rattle.rls_session.specs.Intake.{taken, to_come, KeepsEnd}
use Rattle.rls_session.proofs.intake.Intake.find_line.Given as goal

-- no line feed is in front of the index
abbrev pub invariant-loop-clear : goal.invariant-loop-clear
invariant-loop-clear g l = record {
  in_range : l.clear ≤ length l.self.waiting;
  clear : position_or_len is_line_feed (take l.clear l.self.waiting) ≡ l.clear;
  same : Keeps (to_come l.fn.self (g.S.Source.left l.fn.source)) (to_come l.self (g.S.Source.left l.source));
  used : l.self.used ≡ l.fn.self.used;
  few : taken l.self ≤ INPUT_BYTES + 1;
  known : KeepsEnd l.fn.self (g.S.Source.left l.fn.source) l.self (g.S.Source.left l.source);
  stays_ended : IsTrue l.fn.self.ended → IsTrue l.self.ended;
  ahead : length l.fn.self.waiting ≤ 4096 → length l.self.waiting ≤ l.clear + 4096;
  given : Given g.S.Source.read_gives l.fn.self.ended true l.self.ended l.fn.source l.source (Took l.fn.self l.self);
  never_falls : g.S.Source.faults l.fn.source ≤ g.S.Source.faults l.source;
}

abbrev pub decreases-loop-clear : goal.decreases-loop-clear
decreases-loop-clear g l = INPUT_BYTES + 1 - (l.self.used + length l.self.waiting)
