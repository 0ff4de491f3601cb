use Rattle.std.proofs.Common.{◌∙◌, ap, length}
use Rattle.rls_journal.specs.Memory.{DiskState, Wrote, done}
use Rattle.rls_io.proofs.Told.{on_err_holds}
use Rattle.rls_journal.proofs.States.{IsWritten, is_written, torn_refused, crash_refused}
use Rattle.rls_journal.proofs.memory.MemoryDiskDisk.write.Goals as goal

written : (c : goal.After-put) → IsWritten c.args.area c.args.at c.args.bytes.now c.args.self.now c.put.new.self
written c =
    is_written c.args.self.now c.put.new.self c.args.area c.args.at c.args.bytes.now c.requires.area c.requires.within (c.put.ensures.done ∙ ap (λ (s : DiskState). done s (Wrote c.args.area c.args.at c.args.bytes.now)) c.in_ok-enter.ensures.ok)

pub returns-in_err-enter-clause-torn : goal.returns-in_err-enter-clause-torn
returns-in_err-enter-clause-torn c = on_err_holds c.from_residual.result _ (torn_refused c.args.self.now c.enter.new.self c.args.area c.args.at (length c.args.bytes.now) c.in_err-enter.ensures.refused)

pub returns-in_err-enter-clause-crash : goal.returns-in_err-enter-clause-crash
returns-in_err-enter-clause-crash c = crash_refused c.args.self.now c.enter.new.self c.args.area c.args.at (length c.args.bytes.now) c.in_err-enter.ensures.refused

pub returns-clause-written : goal.returns-clause-written
returns-clause-written c = (written c).written

pub returns-clause-crash : goal.returns-clause-crash
returns-clause-crash c = (written c).crash

pub returns-clause-time : goal.returns-clause-time
returns-clause-time c = (written c).goes
