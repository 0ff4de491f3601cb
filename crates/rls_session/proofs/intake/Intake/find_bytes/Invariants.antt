use Rattle.std.proofs.Common.{◌≡◌, ◌+◌, ◌≤◌, ◌-◌, length, true, IsTrue}
use Rattle.rls_ident.specs.declared.limits.TheConstants.{INPUT_BYTES}
use Rattle.rls_io.specs.Device.{Keeps}
use Rattle.rls_session.specs.AsTold.{Given, Took}
use Rattle.rls_session.specs.Intake.{taken, to_come, KeepsEnd}
use Rattle.rls_session.proofs.intake.Intake.find_bytes.Given as goal

abbrev pub invariant-loop-self : goal.invariant-loop-self
invariant-loop-self g l = record {
  same : Keeps (to_come l.fn.self (g.S.Source.left l.fn.source)) (to_come l.self (g.S.Source.left l.source));
  used : l.self.used ≡ l.fn.self.used;
  few : taken l.self ≤ INPUT_BYTES + 1;
  known : KeepsEnd l.fn.self (g.S.Source.left l.fn.source) l.self (g.S.Source.left l.source);
  stays_ended : IsTrue l.fn.self.ended → IsTrue l.self.ended;
  ahead : length l.fn.self.waiting ≤ 4096 → length l.self.waiting ≤ l.n + 4096;
  given : Given g.S.Source.read_gives l.fn.self.ended true l.self.ended l.fn.source l.source (Took l.fn.self l.self);
  never_falls : g.S.Source.faults l.fn.source ≤ g.S.Source.faults l.source;
}

abbrev pub decreases-loop-self : goal.decreases-loop-self
decreases-loop-self g l = l.n - length l.self.waiting
